-- Refusals that differ.
use Rattle.std.proofs.Common.{◌≡◌, Result, Ok, Err, ap}
use Rattle.std.specs.Prelude.{◌↔◌, IsErrOf}
use Rattle.std.specs.Result.{IsErrAnd}
use Rattle.dash_shard.specs.declared.error.ConstructError.{ConstructError}
use Rattle.dash_shard.specs.declared.error.ConstructError.TheVariants.{ShardAmount, Callers, Memory}
use Rattle.dash_history.specs.declared.gather.GatherError.{GatherError}
use Rattle.dash_history.specs.declared.gather.GatherError.TheVariants as gather
use Rattle.dash_history.specs.declared.record.RecordFault.{RecordFault}
use Rattle.dash_history.specs.declared.record.RecordFault.TheVariants.{LastStamp, NoSuchShard}
use Rattle.dash_history.specs.declared.record.RecordFault.TheVariants as fault

pub callers-amount : {T : Type 0} → ◌≡◌ {A = Result T ConstructError} (Err Callers) (Err ShardAmount) → ⊥
callers-amount same = cc

pub memory-amount : {T : Type 0} → ◌≡◌ {A = Result T ConstructError} (Err Memory) (Err ShardAmount) → ⊥
memory-amount same = cc

pub memory-callers : {T : Type 0} → ◌≡◌ {A = Result T ConstructError} (Err Memory) (Err Callers) → ⊥
memory-callers same = cc

-- want of memory is no mismatch of logs
pub memory-mismatch : {T : Type 0} → ◌≡◌ {A = Result T GatherError} (Err gather.Memory) (Err gather.Mismatch) → ⊥
memory-mismatch same = cc

-- a refusal is passed on as it is
pub passed-on : {T X E : Type 0} (P : Type 0) (r : Result X E) (e k : E) → IsErrAnd r (λ x. x ≡ e) → (IsErrOf {T = T} (Err e) k ↔ P) → IsErrOf r k ↔ P
passed-on P (Ok x) e k told is = absurd told
passed-on P (Err x) e k told is = (λ same. is.0 cc, λ p. let last = is.1 p in cc)

-- what was made is refused as little as what it was made of
pub made-too : {T X E : Type 0} (P : Type 0) (x : X) (t : T) (k : E) → (IsErrOf {T = X} (Ok x) k ↔ P) → IsErrOf {T = T} (Ok t) k ↔ P
made-too P x t k is = (λ same. cc, λ p. let refused = is.1 p in cc)

-- where parts were planned, there is a stamp, and want of memory is all that refuses them
pub planned-memory : {T X : Type 0} (P : Type 0) (x : X) → (IsErrOf {T = X} (Ok x) LastStamp ↔ P) → IsErrOf {T = T} (Err fault.Memory) LastStamp ↔ P
planned-memory P x is = (λ same. cc, λ p. let last = is.1 p in cc)

pub missing-last : {T B : Type 0} (back : B) → ◌≡◌ {A = Result T (B × RecordFault)} (Err (back, NoSuchShard)) (Err (back, LastStamp)) → ⊥
missing-last {T} {B} back same =
    let pair : ◌≡◌ {A = B × RecordFault} (back, NoSuchShard) (back, LastStamp) = cc in
    let fault : NoSuchShard ≡ LastStamp = ap (λ (p : B × RecordFault). p.1) pair in
    cc
