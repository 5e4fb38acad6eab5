-- The shard that a key's entry holds.
use Rattle.std.proofs.Common.{Result, Ok, Err, IfOk, sym, subst}
use Rattle.dash_shard.specs.Hashing.{KeyHash}
use Rattle.dash_shard.specs.Shard.{ShardState, IsShard}
use Rattle.dash_ref.specs.Entry.{OccupiedOf, VacantOf}
use Rattle.dash_ref.specs.EntryCases.{Entry, MatchEntry, IsEntryOf, entry_shard}
use Rattle.dash_ref.specs.declared.mapref.entry.EntryRefused.{EntryRefused}
use Rattle.dash_ref.specs.declared.mapref.entry.EntryCase.TheVariants.{Occupied, Vacant}
use Rattle.dash_map.specs.Behind.{StandsAt}
use Rattle.dash_map.specs.Map.{MapState}
use Rattle.dash_map.proofs.Lifting.{tagged-moved}

module _ {K V S : Type 0} (h : KeyHash K S) (m : MapState K V S) (key : K) (s : ShardState K V S) (here : StandsAt h m key s) where
  entry-stands : (e : Entry K V S) → MatchEntry e (OccupiedOf h.eq s key) (VacantOf h.eq s key) → IsShard h (entry_shard e) → StandsAt h m key (entry_shard e)
  entry-stands (Occupied o) is lawful = subst (StandsAt h m key) (sym is.shard) here
  entry-stands (Vacant v) is lawful = tagged-moved h m.hasher m.amount _ s v.shard here is.stays lawful

  -- the entry of a key in the shard where it goes stands there too
  pub entered : (r : Result (Entry K V S) (EntryRefused K)) → IsEntryOf h.eq s key r → IfOk r (λ e. IsShard h (entry_shard e)) → IfOk r (λ e. StandsAt h m key (entry_shard e))
  entered (Ok e) is lawful = entry-stands e is lawful
  entered (Err r) is lawful = tt
