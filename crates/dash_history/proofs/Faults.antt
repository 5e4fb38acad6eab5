-- The faults of a shard's own step.
use Rattle.std.proofs.Common.{◌≡◌, ◌⊎◌, ◌↔◌, Bool, false, IsTrue, Result, Err, refl, ⊎_elim}
use Rattle.std.proofs.lemmas.Bool.{both_ways}
use Rattle.std.specs.Prelude.{IfErr}
use Rattle.std.proofs.lemmas.Result.{IfErr-at_err}
use Rattle.dash_history.specs.declared.record.RecordFault.{RecordFault}
use Rattle.dash_history.specs.declared.record.RecordFault.TheVariants.{LastStamp, Memory, NoSuchShard, Part}

other : (f : RecordFault) → f ≡ NoSuchShard → (f ≡ Part) ⊎ (f ≡ LastStamp) ⊎ (f ≡ Memory) → ⊥
other f e h = ⊎_elim (λ (x : f ≡ Part). cc) (⊎_elim (λ (x : f ≡ LastStamp). cc) (λ (x : f ≡ Memory). cc)) h

-- a shard's own step doesn't miss the shard
pub never-missing : {A B : Type 0} (result : Result A (B × RecordFault)) (back : B) → IfErr result (λ e. (e.1 ≡ Part) ⊎ (e.1 ≡ LastStamp) ⊎ (e.1 ≡ Memory)) → result ≡ Err (back, NoSuchShard) → ⊥
never-missing {A} {B} result back faults e =
    let Faults : B × RecordFault → Type 0 = λ e. (e.1 ≡ Part) ⊎ (e.1 ≡ LastStamp) ⊎ (e.1 ≡ Memory) in
    other NoSuchShard refl (IfErr-at_err Faults e faults)

-- what was found to be no part is none
pub not_part : {P : Type 0} (said : Bool) → IsTrue said ↔ P → said ≡ false → P → ⊥
not_part said is unsaid p = both_ways said unsaid (is.1 p)
