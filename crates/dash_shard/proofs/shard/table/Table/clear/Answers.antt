use Rattle.std.proofs.Common.{◌≡◌, ◌*◌, None, Option, length, refl, sym, subst, ap, ◌∙◌, arith, vec_len}
use Rattle.std.proofs.Math.ListN.{replicate}
use Rattle.dash_shard.specs.inner.Table.{TellsTaken, groups_in, pairs_in}
use Rattle.dash_shard.proofs.Placing.{table-fresh, table-tells, map-replicate}
use Rattle.dash_shard.proofs.shard.table.Table.clear.Goals as goal

pub let_go-requires : goal.let_go-requires
let_go-requires g c = subst (λ l. TellsTaken 0 l (pairs_in c.args.self.now)) (sym c.deref.ensures.value) (table-tells c.args.self.now c.requires)

pub returns-clause-table : goal.returns-clause-table
returns-clause-table g c =
    let t = c.args.self.now in
    let m = c.requires.marked in
    let n = groups_in t in
    let O = Option (g.row.K.Denot × g.row.V.Denot) in
    let pairs = c.let_go.ensures.pairs ∙ map-replicate (pairs_in t) ∙ ap (λ k. replicate {A = O} k None) m.slots_len in
    let wide : vec_len t.tags ≡ 16 * n = omega (arith, m.tags_len, t.tags.ok.0) in
    let long : vec_len t.counts ≡ n = omega (arith, t.counts.ok.0) in
    table-fresh _ n (16 * n) pairs (ap length c.let_go.ensures.hashes ∙ m.hashes_len) refl
    (c.fill.ensures.items (λ y h. h) ∙ ap (λ k. replicate k 128) wide)
    (c.fill-2.ensures.items (λ y h. h) ∙ ap (λ k. replicate k 0) long) refl
