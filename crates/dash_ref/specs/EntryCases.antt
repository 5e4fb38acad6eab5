-- What is known of an entry, by its case.
use Rattle.std.specs.Prelude.{◌≡◌, ◌≤◌, Bool, None, Result, Ok, Err}
use Rattle.dash_shard.specs.Contents.{at}
use Rattle.dash_shard.specs.Lock.{LeftBehind}
use Rattle.dash_shard.specs.Shard.{ShardState, pairs, shard_len}
use Rattle.dash_ref.specs.Entry.{OccupiedState, VacantState, OccupiedOf, VacantOf}
use Rattle.dash_ref.specs.declared.mapref.entry.EntryRefused.{EntryRefused}
use Rattle.dash_ref.specs.declared.mapref.entry.EntryCase.{EntryCase}
use Rattle.dash_ref.specs.declared.mapref.entry.EntryCase.TheVariants.{Occupied, Vacant}

abbrev pub Entry : Type 0 → Type 0 → Type 0 → Type 0
Entry K V S = EntryCase (OccupiedState K V S) (VacantState K V S)

module _ {K V S : Type 0} where
  -- P of an occupied entry, Q of a vacant one
  abbrev pub MatchEntry : Entry K V S → (OccupiedState K V S → Type 0) → (VacantState K V S → Type 0) → Type 0
  MatchEntry (Occupied o) P Q = P o
  MatchEntry (Vacant v) P Q = Q v

  -- the shard that it holds
  abbrev pub entry_shard : Entry K V S → ShardState K V S
  entry_shard (Occupied o) = o.pair.shard
  entry_shard (Vacant v) = v.shard

  -- the entry of a key in a shard: occupied exactly where a pair with an equal one is there; a refusal hands the key of a vacant one back,
  -- comes only for a full shard, and leaves the shard as it was
  abbrev pub IsEntryOf : (K → K → Bool) → ShardState K V S → K → Result (Entry K V S) (EntryRefused K) → Type 0
  IsEntryOf eq s key (Ok e) = MatchEntry e (OccupiedOf eq s key) (VacantOf eq s key)
  IsEntryOf eq s key (Err r) = (r.key ≡ key) × (at eq (pairs s) key ≡ None) × (s.capacity ≤ shard_len s) × LeftBehind s
