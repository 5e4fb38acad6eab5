use Rattle.std.proofs.Common.{rules, true, None, Some, length, refl, sym, subst, ◌<◌, ◌∙◌, ap, set, get_or-set_same}
use Rattle.std.proofs.lemmas.List.{length-set}
use Rattle.std.proofs.Math.Seq.{set-set}
use Rattle.dash_shard.specs.Shard.{slot}
use Rattle.dash_shard.specs.inner.Table.{pairs_in}
use Rattle.dash_shard.proofs.Written.{spot-within, table-rewritten}
use Rattle.dash_shard.proofs.shard.table.Table.alter_at.Goals as goal

pub returns : goal.returns
returns g c =
    let q : g.row.K.Denot × g.row.V.Denot = (c.take-key.result.0, c.f-value.result) in
    let xs = pairs_in c.args.self.now in
    let back = c.put_back.ensures.values ∙ ap (λ ys. set ys c.args.position (Some q)) c.take-key.ensures.values ∙ set-set xs c.args.position None (Some q) in
    let after = ap (λ ys. slot ys c.args.position) back ∙ get_or-set_same xs c.args.position (Some q) None (spot-within xs c.args.position c.requires.taken) in
    record {
      visits = rw (c.take-key.ensures.value, after) (true, c.f-value.result, (_, refl, c.f-value.ensures), refl);
      pairs = rw after back;
      hashes = search rules;
      len = search rules;
      slots = search rules;
      table = table-rewritten c.args.self.now _ c.args.position _ q c.requires.table c.take-key.ensures.value back (c.put_back.ensures.labels ∙ c.take-key.ensures.labels) refl refl refl;
    }

pub put_back-requires-clause-within : goal.put_back-requires-clause-within
put_back-requires-clause-within g c = subst (λ n. c.args.position < n) (sym (ap length c.take-key.ensures.values ∙ length-set _ c.args.position None)) (spot-within _ c.args.position c.requires.taken)

pub put_back-requires-clause-empty : goal.put_back-requires-clause-empty
put_back-requires-clause-empty g c = ap (λ ys. slot ys c.args.position) c.take-key.ensures.values ∙ get_or-set_same _ c.args.position None None (spot-within _ c.args.position c.requires.taken)
