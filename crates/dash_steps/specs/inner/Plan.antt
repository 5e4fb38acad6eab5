-- What a step will do to the pairs of a shard: it is decided before anything changes.
use Rattle.std.specs.Prelude.{Bool, true, false, List, Option, Some, None, IsTrue, IsSome, ⊤, ◌≡◌, ℕ, option_and_then, IfSome}
use Rattle.std.specs.Option.{option_eq}
use Rattle.dash_shard.specs.Contents.{at}
use Rattle.dash_shard.specs.Steps as table
use Rattle.dash_shard.specs.inner.Steps as parts
use Rattle.dash_shard.specs.Steps.{Line, at_key, on_shard, line}
use Rattle.dash_shard.specs.inner.Steps.{key_or, after}
use Rattle.dash_shard.specs.Hashing.{KeyHash}
use Rattle.dash_shard.specs.Shard.{ShardState, pairs, IsShard, slot}
use Rattle.dash_shard.specs.inner.Keys.{keys_of}
use Rattle.dash_steps.specs.Kept.{alike_pair}
use Rattle.dash_steps.specs.Alike.{alike_reply}
use Rattle.dash_steps.specs.Steps.{step_of, reply_of}
use Rattle.dash_steps.specs.inner.Hashed.{OfKey}
use Rattle.dash_steps.specs.Takes.{Known, Answers}
use Rattle.dash_steps.specs.inner.Copied.{AlikeAt}
use Rattle.dash_steps.specs.inner.Kinds.{kinds_of}
use Rattle.dash_steps.specs.inner.Sweep.{keeping, GivesEach, SweptTo}
use Rattle.dash_shard.specs.Held.{Finds}
use Rattle.dash_shard.specs.inner.Table.{MayTake}
use Rattle.dash_shard.specs.declared.shard.table.Place.{Place}
use Rattle.dash_steps.specs.declared.step.ShardStep.{ShardStep}
use Rattle.dash_steps.specs.declared.step.ShardStep.TheVariants.{Insert, Remove, RemoveIf, RemoveIfMut, Alter, AlterAll, Retain}
use Rattle.dash_steps.specs.declared.step.Reply.{Reply}
use Rattle.dash_steps.specs.declared.change.Change.{Change}
use Rattle.dash_steps.specs.declared.change.Change.TheVariants.{Stays, Goes, Becomes, Each}

module _ {K V : Type 0} where
  -- the plain step that makes such a change of the pair at k
  abbrev pub change_step : K → Change V → table.Step K V
  change_step k Stays = table.Get k
  change_step k Goes = table.Remove k
  change_step k (Becomes v) = table.Insert k v
  change_step k (Each made) = table.Get k

  -- what the change makes of the pair that stands at a key
  abbrev pub changed_by : K → Change V → Option (K × V) → Option (K × V)
  changed_by k Stays o = o
  changed_by k Goes o = None
  changed_by k (Becomes v) o = Some (key_or k o, v)
  changed_by k (Each made) o = o

  -- the change is one of the pair at a key, and a new value is for a pair that is there
  abbrev pub HasPair : Change V → Option (K × V) → Type 0
  HasPair (Becomes v) o = IsSome o
  HasPair (Each made) o = ⊥
  HasPair _ o = ⊤

  -- the change is what the action makes of each of these pairs
  abbrev pub MakesEach : (V → V → Bool) → table.Act K V → List (K × V) → Change V → Type 0
  MakesEach v f P (Each made) = GivesEach v f P made.items
  MakesEach v f P change = ⊥

  -- the change of the pair at a key is made on the shard
  abbrev pub Makes : {S : Type 0} → KeyHash K S → ShardState K V S → ShardState K V S → K → Change V → Type 0
  Makes h s t key change = parts.Becomes (keys_of h s) (change_step key change) (pairs s) (pairs t)

  -- where the change is what an action makes of each of the pairs P, the sweep with it leaves Q
  abbrev pub PutsEach : (K → K → Bool) → (K → K → Bool) → (V → V → Bool) → Change V → List (K × V) → List (K × V) → Type 0
  PutsEach eq k v change P Q = (f : table.Act K V) → MakesEach v f P change → SweptTo eq k v f P Q

  -- where a look-up of a key found this slot, the change of the pair at the key is made on the shard
  abbrev pub MakesAt : {S : Type 0} → KeyHash K S → ShardState K V S → ShardState K V S → Option ℕ → Change V → Type 0
  MakesAt h s t found change = (key : K) → Finds h.eq s key found → HasPair change (at h.eq (pairs s) key) → Makes h s t key change

  -- the slot that was found, if one was, is taken
  abbrev pub IsTakenSlot : {S : Type 0} → ShardState K V S → Option ℕ → Type 0
  IsTakenSlot s found = IfSome found (λ i. IsSome (slot s.slots i))

  -- the pair of the slot that was found
  abbrev pub pair_in : {S : Type 0} → ShardState K V S → Option ℕ → Option (K × V)
  pair_in s found = option_and_then (slot s.slots) found

  -- a lawful shard stays lawful
  abbrev pub StaysLawful : {S : Type 0} → KeyHash K S → ShardState K V S → ShardState K V S → Type 0
  StaysLawful h s t = IsShard h s → IsShard h t

  module _ (k : K → K → Bool) (v : V → V → Bool) where
    -- the change is what the line makes of the pair that stands at its key
    pub record Fits (key : K) (becomes : Option (K × V) → Option (K × V)) (o : Option (K × V)) (change : Change V) : Type 0 where
      pub makes : IsTrue (option_eq (alike_pair k v) (becomes o) (changed_by key change o))
      pub there : HasPair change o

    -- the reply and the change are those of a line of the step table, where this pair stands at its key
    abbrev pub Plans : Line K V → Option (K × V) → Reply K V × Change V → Type 0
    Plans (at_key key becomes replies) o plan = IsTrue (alike_reply k v (replies o) (reply_of plan.0)) × Fits key becomes o plan.1
    Plans (on_shard i becomes replies) o plan = ⊥

    -- the change is that of a line
    abbrev pub FitsLine : Line K V → Option (K × V) → Change V → Type 0
    FitsLine (at_key key becomes replies) o change = Fits key becomes o change
    FitsLine (on_shard i becomes replies) o change = ⊥

-- a pair of the step's key and this hash may be put on the place, if the step is an insert, and there is room
abbrev pub HasPlace : {K V A S : Type 0} → ShardState K V S → ShardStep K V A → ℕ → Place → Type 0
HasPlace s (Insert k v) hash place = MayTake s hash place
HasPlace s _ hash place = ⊤

module _ {K V A S : Type 0} (w : Known K V A S) (s : ShardState K V S) where
  -- the change of the pair at a key is what the line makes of it
  abbrev pub FitsAt : K → Line K V → Change V → Type 0
  FitsAt key line change = FitsLine w.alike_key w.alike_value line (at w.keys.eq (pairs s) key) change

  -- a look-up of the step's key found this slot, or the step has no key, and there is no slot
  abbrev pub IsFound : ShardStep K V A → Option ℕ → Type 0
  IsFound step found = OfKey (line (step_of w.acts step)) (λ k. Finds w.keys.eq s k found) (found ≡ None)

  -- the change is what the step makes of the pair at its key, or its action of each pair of its shard
  abbrev pub Decides : ShardStep K V A → Change V → Type 0
  Decides (Remove k) change = FitsAt k (line (table.Remove k)) change
  Decides (RemoveIf k f) change = FitsAt k (line (table.RemoveIf k (w.acts f))) change
  Decides (RemoveIfMut k f) change = FitsAt k (line (table.RemoveIfMut k (w.acts f))) change
  Decides (Alter k f) change = FitsAt k (line (table.Alter k (w.acts f))) change
  Decides (AlterAll i f) change = MakesEach w.alike_value (keeping true (w.acts f)) (pairs s) change
  Decides (Retain i f) change = MakesEach w.alike_value (keeping false (w.acts f)) (pairs s) change
  Decides _ change = ⊤

  -- the step may get this reply, up to alike
  abbrev pub MayAnswer : ShardStep K V A → Reply K V → Type 0
  MayAnswer step reply = Answers (kinds_of w s).rules (pairs s) (step_of w.acts step) (reply_of reply)

  -- the step leaves the pairs of t, up to alike
  abbrev pub Leaves : ShardStep K V A → ShardState K V S → Type 0
  Leaves step t = (j : K) → AlikeAt (kinds_of w s).rules (after (kinds_of w s).rules.keys (step_of w.acts step) j (at w.keys.eq (pairs s) j)) (at w.keys.eq (pairs t) j)
