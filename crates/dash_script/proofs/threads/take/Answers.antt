use Rattle.std.proofs.Common.{Err, ap, ◌∙◌, arith}
use Rattle.dash_shard.proofs.Routing.{route_below}
use Rattle.dash_script.proofs.Working.{inside, logged-ok, no-stamp, not-outside, not-part}
use Rattle.dash_script.proofs.threads.take.Goals.{in-Ok, in-Err-default-LastStamp, in-Err-default-Memory}
use Rattle.dash_script.proofs.threads.take.Goals as goal

pub unreachable-requires : goal.unreachable-requires
unreachable-requires g c =
    let e = c.in-Err-default-NoSuchShard in
    not-outside _ _ c.args.step c.requires.kind (λ k. route_below _ c.args.map.now.amount (omega (arith, c.requires.shards)))
    (c.apply.ensures.logs.no_such_shard.0 (e.is ∙ ap (λ s. Err (s, e.field-0-1)) e.ensures.logs.refused.0 ∙ ap (λ f. Err (c.args.step, f)) e.field-0-1-is)).1

pub returns-clause-taken : goal.returns-clause-taken
returns-clause-taken g c = elim c.match-apply.branch [
  | in-Ok w ↦ rw w.result-is (logged-ok _ _ _ c.args.step c.apply.result _ c.requires.kind w.in-Ok.is c.apply.ensures.logs.ok)
  | in-Err-default-LastStamp w ↦ rw w.result-is tt
  | in-Err-default-Memory w ↦ rw w.result-is tt
]

pub returns-clause-refused : goal.returns-clause-refused
returns-clause-refused g c = elim c.match-apply.branch [
  | in-Ok w ↦ rw w.result-is tt
  | in-Err-default-LastStamp w ↦ let e = w.in-Err-default-LastStamp in rw w.result-is (no-stamp _ c.args.map.now _ c.args.log.now c.apply.new.log c.args.step c.apply.result
      (e.is ∙ ap (λ s. Err (s, e.field-0-1)) e.ensures.logs.refused.0 ∙ ap (λ f. Err (c.args.step, f)) e.field-0-1-is) e.ensures.logs.refused.1
      (c.apply.ensures.logs.shard (not-part c.args.step c.requires.kind) (inside _ _ c.args.step c.requires.kind (λ k. route_below _ c.args.map.now.amount (omega (arith, c.requires.shards))))))
  | in-Err-default-Memory w ↦ rw w.result-is tt
]
