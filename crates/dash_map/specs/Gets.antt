-- What a call promises that looks a pair up and holds its shard.
use Rattle.std.specs.Prelude.{◌≡◌, Bool, Option, Result, IsTrue, IfSome, IfNone, IfOk, option_map}
use Rattle.dash_shard.specs.Contents.{at_named}
use Rattle.dash_shard.specs.Hashing.{KeyHash}
use Rattle.dash_shard.specs.Shard.{ShardState, HasNamed, pairs}
use Rattle.dash_ref.specs.EntryCases.{Entry, IsEntryOf, entry_shard}
use Rattle.dash_ref.specs.Ref.{RefState, Stands, pair_of}
use Rattle.dash_ref.specs.RefMut.{RefMutState, GetsMut}
use Rattle.dash_ref.specs.declared.mapref.entry.EntryRefused.{EntryRefused}
use Rattle.dash_shard.specs.Lock.{GivenBack}
use Rattle.dash_map.specs.Behind.{SawServing, SawShard, Serves, StandsAt}
use Rattle.dash_map.specs.Map.{MapState}

-- the reference is to the pair that is named in the shard, which it holds as it was, or there is none, and the hold is over
pub record GetsFrom {K V S : Type 0} (names : K → Bool) (s : ShardState K V S) (result : Option (RefState K V S)) : Type 0 where
  pub pair : option_map pair_of result ≡ at_named names (pairs s)
  pub shard : IfSome result (λ found. found.shard ≡ s)
  pub back : IfNone result (GivenBack s)

-- what `get` promises
pub record IsGot {K V S : Type 0} (h : KeyHash K S) (m : MapState K V S) (names : K → Bool) (result : Option (RefState K V S)) : Type 0 where
  pub saw : SawServing h m names (λ s. GetsFrom names s result)
  pub equal : IfSome result (λ found. IsTrue (names found.key))
  pub stands : IfSome result Stands
  pub tagged : IfSome result (λ found. StandsAt h m found.key found.shard)

-- what `get_mut` promises
pub record IsGotMut {K V S : Type 0} (h : KeyHash K S) (m : MapState K V S) (names : K → Bool) (result : Option (RefMutState K V S)) : Type 0 where
  pub saw : SawServing h m names (λ s. GetsMut names s result)
  pub equal : IfSome result (λ found. HasNamed names found.shard found.position)
  pub tagged : IfSome result (λ found. Serves h m names found.shard)

-- what `entry` promises
pub record IsGotEntry {K V S : Type 0} (h : KeyHash K S) (m : MapState K V S) (key : K) (result : Result (Entry K V S) (EntryRefused K)) : Type 0 where
  pub saw : SawShard h m key (λ s. IsEntryOf h.eq s key result)
  pub tagged : IfOk result (λ entry. StandsAt h m key (entry_shard entry))
