use Rattle.std.proofs.Common.{◌≡◌, true, false, [], ◌∷◌, ap, subst, ◌∙◌, arith}
use Rattle.std.proofs.lemmas.List.{nil_from_length}
use Rattle.std.proofs.lemmas.List.Elements.{All-pop}
use Rattle.dash_rows.specs.inner.Lanes.{steps_in}
use Rattle.dash_rows.proofs.Running.{Running, steps-push, running-more, fits-after, lane-ran}
use Rattle.dash_rows.proofs.workers.lane.take_steps.Goals as goal

pub loop-mark-preserved : goal.loop-mark-preserved
loop-mark-preserved g c =
    let P = g.P.Part in
    let before = c.loop-mark.invariant in
    let next : steps_in c.loop-mark.steps.items ≡ c.in-Some.step ∷ steps_in c.pop.new.self.items = ap steps_in c.in-Some.ensures.items ∙ steps-push c.pop.new.self.items (c.in-Some.mark, c.in-Some.step) in
    record {
      so_far = rw c.push_reserved.ensures.items (running-more P.takes _ _ _ _ _ _ _ _ (subst (λ l. Running P.takes c.args.part.now (steps_in c.args.steps.now.items) c.loop-mark.part l c.loop-mark.replies.items) next before.so_far) c.in-Ok.ensures.taken);
      fits = fits-after P.takes P.fits g.met.P.Part.stays _ _ _ _ c.pop.new.self.items c.in-Ok.ensures.taken (All-pop (λ e. P.fits c.loop-mark.part e.1 e.0) _ _ c.pop.result c.pop.ensures.items before.fits).0;
      room = omega (arith, before.room, c.push_reserved.ensures, c.in-Some.ensures.cases);
    }

pub returns-in-Err : goal.returns-in-Err
returns-in-Err g c =
    let next : steps_in c.loop-mark.steps.items ≡ c.in-Some.step ∷ steps_in c.pop.new.self.items = ap steps_in c.in-Some.ensures.items ∙ steps-push c.pop.new.self.items (c.in-Some.mark, c.in-Some.step) in
    rw c.in-Err.ensures.refused.1 (lane-ran g.P.Part.takes _ _ _ _ _ true c.loop-mark.invariant.so_far (λ e. let no : ⊥ = cc in absurd no) (λ _ e. let no : ⊥ = cc in no))

pub returns : goal.returns
returns g c =
    let none : c.loop-mark.steps.items ≡ [] = nil_from_length c.loop-mark.steps.items (omega (arith, c.in_default.ensures)) in
    lane-ran g.P.Part.takes _ _ _ _ _ false c.loop-mark.invariant.so_far (λ _. ap steps_in none) (λ e. let no : ⊥ = cc in absurd no)
