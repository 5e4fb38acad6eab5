use Rattle.std.proofs.Common.{◌≡◌, ◌↔◌, [], subst, ◌∙◌}
use Rattle.std.specs.List.{Contains}
use Rattle.std.specs.Prelude.{IsTrue}
use Rattle.dash_history.specs.Merge.{along}
use Rattle.dash_history.specs.OneHistory.{histories, rec_contents}
use Rattle.dash_script.specs.Replay.{IsReplay}
use Rattle.dash_script.proofs.Replaying.{same-pairs}
use Rattle.dash_script.proofs.threads.judge_alone.Goals as goal

pub agrees-requires : goal.agrees-requires
agrees-requires c a has = (c.in-Ok.ensures.gathered.history.merge.each a).0 (subst (λ xs. Contains xs a) c.as_slice.ensures.value has)

pub returns-clause-judged : goal.returns-clause-judged
returns-clause-judged c =
    let map = c.args.alone.now in
    let ats = c.in-Ok.ats.items in
    let pairs : c.as_slice-2.result.now ≡ rec_contents map = c.as_slice-2.ensures.value ∙ same-pairs (rec_contents map) c.in-Ok-pairs.pairs.items c.in-Ok-pairs.ensures in
    record {
      ats = ats;
      gathered = c.in-Ok.ensures.gathered;
      exact = subst (λ ps. IsTrue c.in-Ok-agrees.legal ↔ IsReplay [] (along (histories map) ats) ps) pairs
          (subst (λ xs. IsTrue c.in-Ok-agrees.legal ↔ IsReplay [] (along (histories map) xs) c.as_slice-2.result.now) c.as_slice.ensures.value c.in-Ok-agrees.ensures);
    }
