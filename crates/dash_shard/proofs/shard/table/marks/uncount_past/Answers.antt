use Rattle.std.proofs.Common.{◌≡◌, ◌+◌, ◌<◌, length, refl, sym, arith, slice_index, set, subst, inl, inr, List, ℕ, ◌∙◌, get_or-set_same}
use Rattle.dash_shard.proofs.Counts.{Uncounting, uncounting-first, uncounting-some, uncounting-whole, uncounting-more}
use Rattle.dash_shard.proofs.shard.table.marks.uncount_past.Goals.{then-counts-group-eq0, else-counts-group-eq0}
use Rattle.dash_shard.proofs.shard.table.marks.uncount_past.Goals as goal

pub loop-step-init : goal.loop-step-init
loop-step-init c = uncounting-first _ _ _ _ _ refl c.requires.tags c.requires.home c.requires.clean

pub lowered-requires-clause-some : goal.lowered-requires-clause-some
lowered-requires-clause-some c =
    let i = c.loop-step.invariant in
    let less : c.loop-step._step < length c.args.counts.now = omega (arith, c.loop-step-test.true, c.requires.steps) in
    let whole = uncounting-whole _ _ _ _ _ _ _ _ _ c.requires.home less i c.args.steps c.loop-step-test.true in
    uncounting-some _ _ _ _ _ _ _ _ _ c.requires.home less i (omega (arith, whole, c.requires.some c.loop-step.group i.below))

pub loop-step-preserved : goal.loop-step-preserved
loop-step-preserved c =
    let i = c.loop-step.invariant in
    let less : c.loop-step._step < length c.args.counts.now = omega (arith, c.loop-step-test.true, c.requires.steps) in
    let whole = uncounting-whole _ _ _ _ _ _ _ _ _ c.requires.home less i c.args.steps c.loop-step-test.true in
    let some = uncounting-some _ _ _ _ _ _ _ _ _ c.requires.home less i (omega (arith, whole, c.requires.some c.loop-step.group i.below)) in
    let n = length c.args.counts.now in
    let put = set c.loop-step.counts c.loop-step.group c.lowered.result in
    let put-here : slice_index put c.loop-step.group ≡ c.lowered.result = get_or-set_same c.loop-step.counts c.loop-step.group _ 0 (omega (arith, i.below, i.long)) in
    let next : c.next_group-group.result < n = omega (arith, c.next_group-group.ensures.below, i.long) in
    elim c.if-counts-group-eq0.branch as (λ _. Uncounting n c.args.home (c.loop-step._step + 1) c.next_group-group.result c.args.class c.args.counts.now put c.args.tags.now c.if-counts-group-eq0.tags) [
      | then-counts-group-eq0 w ↦
          subst (λ (l : List ℕ). Uncounting n c.args.home (c.loop-step._step + 1) c.next_group-group.result c.args.class c.args.counts.now put c.args.tags.now l) (sym w.tags-is)
          (uncounting-more _ _ _ _ _ _ _ _ _ c.requires.home less i _ _ w.clean_group.new.tags c.lowered.ensures.own c.lowered.ensures.others some next
          (λ lt here. c.next_group-group.ensures.next c.args.home c.loop-step._step c.requires.home less here)
          w.clean_group.ensures.keeps
          (inr (sym put-here ∙ w.if-counts-group-eq0.true))
          (λ _. w.clean_group.ensures.clean)
          w.clean_group.ensures.len)
      | else-counts-group-eq0 w ↦
          subst (λ (l : List ℕ). Uncounting n c.args.home (c.loop-step._step + 1) c.next_group-group.result c.args.class c.args.counts.now put c.args.tags.now l) (sym w.tags-is)
          (uncounting-more _ _ _ _ _ _ _ _ _ c.requires.home less i _ _ c.loop-step.tags c.lowered.ensures.own c.lowered.ensures.others some next
          (λ lt here. c.next_group-group.ensures.next c.args.home c.loop-step._step c.requires.home less here)
          (λ j. inl refl)
          (inl refl)
          (λ none. absurd (w.if-counts-group-eq0.false (put-here ∙ none)))
          refl)
    ]
