use Rattle.std.proofs.Common.{false, ◌∙◌, sym, ◌≡◌, true}
use Rattle.std.specs.Prelude.{IsTrue}
use Rattle.dash_history.specs.OneHistory.{histories}
use Rattle.dash_script.proofs.Replaying.{left-no, left-more, left-none, nowhere}
use Rattle.dash_script.proofs.threads.replay.agrees.Goals as goal

never : IsTrue false → ⊥
never h = cc

pub returns-then-not-branch : goal.returns-then-not-branch
returns-then-not-branch c =
    let not : c.in_ok-takes.field-0 ≡ true → ⊥ = λ said. never (sym c.if-not-branch.true ∙ said) in (
      λ y. absurd (never y),
      λ h. absurd (left-no (histories c.args.map.now) c.args.ats.now c.args.pairs.now c.loop-at.at-index nowhere c.entry.result.now c.loop-at-test.true c.entry.ensures c.loop-at.plain.entries c.loop-at.invariant (λ fits. not (c.in_ok-takes.ensures.fits.1 fits)) h),
    )

pub loop-at-preserved : goal.loop-at-preserved
loop-at-preserved c =
    left-more (histories c.args.map.now) c.args.ats.now c.args.pairs.now c.loop-at.at-index nowhere c.entry.result.now c.loop-at-test.true c.entry.ensures c.loop-at.plain.entries c.loop-at.invariant
    c.takes.new.plain.entries c.in_ok-takes.ensures.unique (c.in_ok-takes.ensures.fits.0 c.if-not-branch.false) (c.in_ok-takes.ensures.makes c.if-not-branch.false)

pub returns : goal.returns
returns c =
    let all = left-none (histories c.args.map.now) c.args.ats.now c.args.pairs.now c.loop-at.at-index c.loop-at.plain.entries c.loop-at-test.false c.loop-at.invariant in
    (λ y. all.1 (c.has_just.ensures.0 y), λ h. c.has_just.ensures.1 (all.0 h))
