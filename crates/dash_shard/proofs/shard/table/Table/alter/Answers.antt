use Rattle.std.proofs.Common.{None, Some, refl, ◌∙◌, ap, set}
use Rattle.std.proofs.Math.Seq.{set-set}
use Rattle.dash_shard.specs.inner.Table.{pairs_in}
use Rattle.dash_shard.proofs.Rewriting.{rewritten}
use Rattle.dash_shard.proofs.shard.table.Table.alter.Goals as goal

pub returns : goal.returns
returns g c =
    let t = c.args.self.now in
    let i = c.args.position in
    let q : g.row.K.Denot × g.row.V.Denot = (c.take-key.result.0, c.f-value.result) in
    let back = c.put_back.ensures.values ∙ ap (λ xs. set xs i (Some q)) c.take-key.ensures.values ∙ set-set (pairs_in t) i None (Some q) in
    let done = rewritten t _ i _ q c.requires.table c.take-key.ensures.value back (c.put_back.ensures.labels ∙ c.take-key.ensures.labels) refl refl refl in
    rw c.take-key.ensures.value (c.f-value.result, done, (_, refl, c.f-value.ensures))
