-- What a look-up that waits for nobody promises.
use Rattle.std.specs.Prelude.{◌≡◌, Option, Some, None, Result, Ok, Err, ⊤}
use Rattle.dash_ref.specs.declared.try_result.TryResult.{TryResult}
use Rattle.dash_ref.specs.declared.try_result.TryResult.TheVariants.{Present, Absent, Locked}
use Rattle.dash_ref.specs.declared.mapref.entry.EntryRefused.{EntryRefused}
use Rattle.dash_ref.specs.declared.mapref.entry.TryEntryRefused.{TryEntryRefused}
use Rattle.dash_ref.specs.declared.mapref.entry.TryEntryRefused.TheVariants.{Locked as LockedOut, Memory as MemoryRefused}

-- P of what it found, or of nothing where nothing is there, unless somebody had the shard
abbrev pub UnlessLocked : {R : Type 0} → TryResult R → (Option R → Type 0) → Type 0
UnlessLocked (Present x) P = P (Some x)
UnlessLocked Absent P = P None
UnlessLocked Locked P = ⊤

-- P of the entry, or of its refusal for want of memory, unless somebody had the shard: then the key comes back
abbrev pub UnlessLockedOut : {E K : Type 0} → K → Result E (TryEntryRefused K) → (Result E (EntryRefused K) → Type 0) → Type 0
UnlessLockedOut key (Ok e) P = P (Ok e)
UnlessLockedOut key (Err (MemoryRefused k)) P = P (Err (record { key = k }))
UnlessLockedOut key (Err (LockedOut k)) P = k ≡ key
