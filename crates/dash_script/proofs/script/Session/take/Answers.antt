use Rattle.std.proofs.Common.{refl, arith}
use Rattle.std.proofs.lemmas.Cmp.{nat_eq_equiv}
use Rattle.dash_shard.proofs.Routing.{route_below}
use Rattle.dash_steps.specs.declared.step.Reply.TheVariants.{Pairs}
use Rattle.dash_script.proofs.Replies.{faulted}
use Rattle.dash_script.proofs.Wholes.{counts, holds, distinct-copies}
use Rattle.dash_script.proofs.script.Session.take.Goals as goal

pub returns-in-Err-clause-fault : goal.returns-in-Err-clause-fault
returns-in-Err-clause-fault g c =
    let shards = c.args.self.now.shards in
    let e = c.in-Err in
    rw c.in-Step.is (faulted _ (λ k. route_below _ 4 (omega arith)) c.in-Step.step c.apply.result (e.field-0-0, e.fault) e.is e.ensures.logs.refused.0 (rw c.in-Step.is at c.requires) (rw shards at c.apply.ensures.logs.no_such_shard))

pub returns-in_ok-number-in-Whole-Count-clause-reply : goal.returns-in_ok-number-in-Whole-Count-clause-reply
returns-in_ok-number-in-Whole-Count-clause-reply g c =
    let ok = c.in_ok-number-in-Whole-Count in
    rw c.in-Whole-Count.is (counts c.in-Whole-Count.field-0 (rw c.in-Whole-Count.is at c.in-Whole-Count.field-0-is) ok.number (omega (arith, ok.ensures.counts.2.2.ok.joined)))

pub returns-in_ok-pairs-in-Whole-Read-clause-reply : goal.returns-in_ok-pairs-in-Whole-Read-clause-reply
returns-in_ok-pairs-in-Whole-Read-clause-reply g c =
    let ok = c.in_ok-pairs-in-Whole-Read in
    let saw = ok.ensures.clones in
    rw c.in-Whole-Read.is (holds c.in-Whole-Read.field-0 (rw c.in-Whole-Read.is at c.in-Whole-Read.field-0-is) (Pairs ok.pairs) ok.pairs.items (distinct-copies _ nat_eq_equiv _ _ saw.0 saw.1.lawful ok.pairs.items saw.2.2.ok.pairs) refl)
