use Rattle.std.proofs.Common.{◌≡◌, ◌<◌, ◌≤◌, length, get_or, inl, inr, refl, sym, ap, subst, ◌∙◌, arith}
use Rattle.std.proofs.lemmas.Bool.{cases_lt, true≢false}
use Rattle.std.proofs.lemmas.List.{get_or_read_under}
use Rattle.dash_shard.specs.Hashing.{key_hash}
use Rattle.dash_steps.specs.declared.step.ShardStep.{ShardStep}
use Rattle.dash_map.specs.ParRun.{goes_to}
use Rattle.dash_map.proofs.alone.Alone.misses_any.Goals as goal

pub loop-step-preserved : goal.loop-step-preserved
loop-step-preserved g c = λ i d low.
    let h = key_hash g.K.PartialEq.eq g.K.Hash.hash_input g.S.BuildHasher g.S.Hasher.Hasher in
    let there : goes_to h g.A.Action.acts c.args.self.now c.step-item.result < length c.args.self.now.row = omega (arith, λ (le : length c.args.self.now.row ≤ goes_to h g.A.Action.acts c.args.self.now c.step-item.result). true≢false (sym (c.if-misses.ensures.1 le))) in
    elim (cases_lt i c.loop-step.step-index) as (λ _. goes_to h g.A.Action.acts c.args.self.now (get_or c.args.steps.now i d) < length c.args.self.now.row) [
      | inl lt ↦ c.loop-step.invariant i d lt
      | inr ge ↦
          let same : c.loop-step.step-index ≡ i = omega (arith, ge, low) in
          subst (λ (t : ShardStep g.row.K.Denot g.row.V.Denot g.row.A.Denot). goes_to h g.A.Action.acts c.args.self.now t < length c.args.self.now.row)
          (get_or_read_under c.args.steps.now c.loop-step.step-index _ c.step-item.result d c.step-item.is c.loop-step-test.true refl ∙ ap (λ k. get_or c.args.steps.now k d) same) there
    ]

pub returns-then-misses : goal.returns-then-misses
returns-then-misses g c = (λ _. (c.loop-step.step-index, c.step-item.result, c.loop-step-test.true, sym c.step-item.is, c.if-misses.ensures.0 refl), λ _. refl)

pub returns : goal.returns
returns g c = (
  λ f. absurd (true≢false (sym f)),
  λ some.
      let there = subst (λ (t : ShardStep g.row.K.Denot g.row.V.Denot g.row.A.Denot). goes_to (key_hash g.K.PartialEq.eq g.K.Hash.hash_input g.S.BuildHasher g.S.Hasher.Hasher) g.A.Action.acts c.args.self.now t < length c.args.self.now.row)
      some.3 (c.loop-step.invariant some.0 some.1 (omega (arith, some.2))) in
      absurd (omega (arith, there, some.4)),
)
