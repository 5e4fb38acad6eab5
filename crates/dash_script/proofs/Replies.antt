-- What a recorded map returns.
use Rattle.std.proofs.Common.{◌≡◌, ℕ, ◌<◌, ◌≤◌, Ok, Err, refl, ap, subst, ◌∙◌, inl, inr, arith}
use Rattle.std.specs.Prelude.{◌↔◌, ◌⊎◌, Result, IfErr, IsErrAnd, IsErrOf, nat_eq}
use Rattle.dash_shard.specs.Contents.{keys}
use Rattle.dash_shard.specs.Hashing.{IsAmount}
use Rattle.dash_shard.specs.declared.error.ConstructError.{ConstructError}
use Rattle.dash_shard.specs.declared.error.ConstructError.TheVariants.{ShardAmount, Memory, Callers}
use Rattle.dash_history.specs.Alone.{IsCallers}
use Rattle.dash_shard.specs.inner.Steps.{step_shard}
use Rattle.dash_steps.specs.Steps.{step_of, IsPart}
use Rattle.dash_steps.specs.Takes.{shard_of, rules}
use Rattle.dash_steps.specs.inner.Kinds.{kinds}
use Rattle.dash_script.specs.Change.{acts}
use Rattle.dash_script.specs.inner.AlikeChange.{alike_change}
use Rattle.dash_steps.specs.declared.step.ShardStep.TheVariants.{Get, Contains, Insert, Remove, RemoveIf, RemoveIfMut, Alter, Read, Count, AlterAll, Retain, CountPart, ReadPart}
use Rattle.dash_history.specs.declared.record.RecordFault.{RecordFault}
use Rattle.dash_history.specs.declared.record.RecordFault.TheVariants.{NoSuchShard}
use Rattle.dash_script.specs.declared.step.Line.TheVariants as says
use Rattle.dash_script.specs.Script.{IsFaultOf, written}
use Rattle.dash_script.specs.inner.Words.{ScriptStep}

-- the step goes outside a map of four shards exactly where it names a missing one
module _ (route : ℕ → ℕ) (below : (k : ℕ) → route k < 4) where
  abbrev shard-in : ScriptStep → ℕ
  shard-in step = shard_of (kinds alike_change acts (rules nat_eq nat_eq (keys nat_eq route 4))) step

  -- on a map that sends each key to a shard that is there
  abbrev NamesMissing : ScriptStep → Type 0
  NamesMissing step = 4 ≤ step_shard (keys nat_eq (λ _. 0) 4) (step_of acts step)

  outside : (step : ScriptStep) → (4 ≤ shard-in step) ↔ NamesMissing step
  outside (Get k) = ((λ far. absurd (omega (arith, below k, far))), (λ named. absurd (omega (arith, named))))
  outside (Contains k) = ((λ far. absurd (omega (arith, below k, far))), (λ named. absurd (omega (arith, named))))
  outside (Insert k v) = ((λ far. absurd (omega (arith, below k, far))), (λ named. absurd (omega (arith, named))))
  outside (Remove k) = ((λ far. absurd (omega (arith, below k, far))), (λ named. absurd (omega (arith, named))))
  outside (RemoveIf k f) = ((λ far. absurd (omega (arith, below k, far))), (λ named. absurd (omega (arith, named))))
  outside (RemoveIfMut k f) = ((λ far. absurd (omega (arith, below k, far))), (λ named. absurd (omega (arith, named))))
  outside (Alter k f) = ((λ far. absurd (omega (arith, below k, far))), (λ named. absurd (omega (arith, named))))
  outside (Read i) = ((λ far. far), (λ named. named))
  outside (Count i) = ((λ far. far), (λ named. named))
  outside (AlterAll i f) = ((λ far. far), (λ named. named))
  outside (Retain i f) = ((λ far. far), (λ named. named))
  outside (CountPart i) = ((λ far. far), (λ named. named))
  outside (ReadPart i) = ((λ far. far), (λ named. named))

  -- a step that has a line is no part
  own : (step : ScriptStep) → (written step).fits → IsPart step → ⊥
  own (CountPart i) fits is = fits
  own (ReadPart i) fits is = fits
  own step fits is = cc

  -- a map of four shards refuses a step for want of its shard exactly where it names a missing one
  pub faulted : {R : Type 0} (step : ScriptStep) (r : Result R (ScriptStep × RecordFault)) (e : ScriptStep × RecordFault) → r ≡ Err e → e.0 ≡ step → (written step).fits
      → ((r ≡ Err (step, NoSuchShard)) ↔ (IsPart step → ⊥) × (4 ≤ shard-in step)) → IsFaultOf (says.Step step) e.1
  faulted step r e is back fits missing = (
    (λ none. (outside step).0 (missing.0 (is ∙ ap (λ s. Err (s, e.1)) back ∙ ap (λ w. Err (step, w)) none)).1),
    (λ named. let same = missing.1 (own step fits, (outside step).1 named) in cc),
  )

-- why a recorded map isn't made
abbrev Kinds : ConstructError → Type 0
Kinds e = (e ≡ ShardAmount) ⊎ (e ≡ Callers) ⊎ (e ≡ Memory)

only-memory : (e : ConstructError) → Kinds e → (e ≡ ShardAmount → ⊥) → (e ≡ Callers → ⊥) → e ≡ Memory
only-memory e (inl s) amount callers = absurd (amount s)
only-memory e (inr (inl s)) amount callers = absurd (callers s)
only-memory e (inr (inr s)) amount callers = s

-- a map of four shards and one caller is refused only for want of memory
pub refused : {T R : Type 0} (e : ConstructError) (made : Result T ConstructError) (r : Result R ConstructError) → made ≡ Err e
    → (IsErrOf made ShardAmount ↔ (IsAmount 4 → ⊥)) → (IsErrOf made Callers ↔ (IsAmount 4 × (IsCallers 1 → ⊥))) → IfErr made Kinds
    → IsErrAnd r (λ f. f ≡ e) → IfErr r (λ f. f ≡ Memory)
refused e made (Ok x) is amount callers kinds told = tt
refused e made (Err f) is amount callers kinds told =
    let four : IsAmount 4 = record { power = (2, refl); several = omega arith; fits = omega arith } in
    let one : IsCallers 1 = record { some = omega arith; few = omega arith } in
    told ∙ only-memory e (subst (λ m. IfErr m Kinds) is kinds) (λ s. amount.0 (is ∙ ap (λ x. Err x) s) four) (λ s. (callers.0 (is ∙ ap (λ x. Err x) s)).1 one)
