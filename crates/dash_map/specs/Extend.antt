-- Pairs that come one after the other, and are inserted into a map of one owner.
use Rattle.std.specs.Prelude.{◌≡◌, ℕ, All, Bool, List, [], ◌∷◌, ◌++◌, reverse, option_map, option_and_then, Option, Some, None, Result, IfErr, OnOk, OnErr, IsSomeAnd, slice_get, ⊤}
use Rattle.std.specs.Result.{result_err}
use Rattle.std.specs.Iterator.{YieldsThen}
use Rattle.dash_shard.specs.Hashing.{KeyHash, route_by}
use Rattle.dash_shard.specs.Contents.{at}
use Rattle.dash_shard.specs.Steps.{Insert, Old}
use Rattle.dash_shard.specs.Shard.{ShardState, shard_len}
use Rattle.dash_shard.specs.Puts.{PutsPair}
use Rattle.dash_shard.specs.Errors.{IsOneOf}
use Rattle.dash_shard.specs.declared.error.ConstructError.TheVariants.{Parallelism, Memory}
use Rattle.dash_rows.specs.Apart.{EachPart, RanFront, RanShort, RanWhole, SomePart, steps_of}
use Rattle.dash_map.specs.Alone.{AloneState, IsAlone, KeepsRoom, TakesAlone, contents, keys_in}
use Rattle.dash_map.specs.Behind.{LeavesShard, Relocks}
use Rattle.dash_map.specs.Map.{MapState}
use Rattle.dash_map.specs.declared.extend.ExtendRefused.{ExtendRefused}
use Rattle.dash_map.specs.declared.extend.FromRefused.{FromRefused}
use Rattle.dash_map.specs.declared.extend.FromRefused.TheVariants.{Construct, Pair}

-- of the pairs whose keys equal k: the key of the first, with the value of the last
abbrev pub first_with_last : {K V : Type 0} → (K → K → Bool) → List (K × V) → K → Option (K × V)
first_with_last eq ps k = option_and_then (λ first. option_map (λ last. (first.0, last.1)) (at eq (reverse ps) k)) (at eq ps k)

-- what is iterated over gave items of which P is so, and then this one, or its end
abbrev pub Gave : {U T A : Type 0} → (U → T → Type 0) → (T → Option A → T → Type 0) → U → Option A → (List A → Type 0) → Type 0
Gave {U} {T} {A} becomes gives iter then P = (it : T) × (rest : T) × (items : List A) × becomes iter it × YieldsThen gives it items then rest × P items

module _ {K V : Type 0} where
  -- why no map was made: a bad parallelism or no memory for a map, or P of the pair that is refused
  abbrev pub NotMade : (ExtendRefused K V → Type 0) → FromRefused K V → Type 0
  NotMade P (Construct e) = IsOneOf (Parallelism ∷ Memory ∷ []) e
  NotMade P (Pair e) = P e

module _ {K V S : Type 0} (h : KeyHash K S) where
  -- a step of the table for each pair, one after the other
  abbrev pub InsertsEach : AloneState K V S → List (K × V) → AloneState K V S → Type 0
  InsertsEach old [] new = new ≡ old
  InsertsEach old (p ∷ ps) new = (next : AloneState K V S) × (o : Option V) × TakesAlone h old next (Insert p.0 p.1) (Old o) × InsertsEach next ps new

  -- the pairs were inserted: so of equal keys the first stays, and the last value
  pub record Gains (old : AloneState K V S) (ps : List (K × V)) (new : AloneState K V S) : Type 0 where
    pub steps : InsertsEach old ps new
    pub settles : (k : K) → at h.eq (contents new) k ≡ first_with_last h.eq (contents old ++ ps) k
    pub stays : KeepsRoom old new

  -- the pairs were inserted into a map without pairs
  abbrev pub MadeOf : List (K × V) → AloneState K V S → Type 0
  MadeOf ps a = (none : AloneState K V S) × (contents none ≡ []) × Gains none ps a

  -- no equal key is there, and the key's shard is full
  pub record HasNoRoom (key : K) (a : AloneState K V S) : Type 0 where
    pub absent : at h.eq (contents a) key ≡ None
    pub full : IsSomeAnd (slice_get a.row ((keys_in h a).route key)) (λ s. shard_len s ≡ s.capacity)

  -- the pairs were inserted into a map without pairs, which has no room for this key
  abbrev pub Overfills : List (K × V) → K → Type 0
  Overfills ps key = (a : AloneState K V S) × MadeOf ps a × HasNoRoom key a

  -- it is a pair of the list, and those before it leave no room for it
  abbrev pub IsRefusedAmong : List (K × V) → ExtendRefused K V → Type 0
  IsRefusedAmong ps e = (front : List (K × V)) × (behind : List (K × V)) × (ps ≡ front ++ (e.key, e.value) ∷ behind) × Overfills front e.key

  module _ {U T : Type 0} (becomes : U → T → Type 0) (gives : T → Option (K × V) → T → Type 0) (iter : U) where
    -- the items up to this pair were inserted into a map without pairs, and leave no room for it
    abbrev pub IsRefusedOf : ExtendRefused K V → Type 0
    IsRefusedOf e = Gave becomes gives iter (Some (e.key, e.value)) (λ ps. Overfills ps e.key)

    -- all that `extend` promises: the pairs up to the end, or up to the one that is refused, were inserted
    pub record Extends (old new : AloneState K V S) (result : Result (Unit {0}) (ExtendRefused K V)) : Type 0 where
      pub gains : Gave becomes gives iter (option_map (λ e. (e.key, e.value)) (result_err result)) (λ ps. Gains old ps new)
      pub refused : IfErr result (λ e. HasNoRoom e.key new)

    -- the same of the shards that the locks of the map m ended with, and of those that the locks of n were made for
    abbrev pub ExtendsBehind : MapState K V S → MapState K V S → Result (Unit {0}) (ExtendRefused K V) → Type 0
    ExtendsBehind m n result = Relocks h m n (λ old new. Extends old new result)

  -- the pairs that go to one shard were put into it one after the other, all or a front of them
  abbrev pub PutsFront : List (K × V) → ShardState K V S → ShardState K V S → Type 0
  PutsFront = RanFront (λ s p (_ : ⊤) t. PutsPair h s p t)

  -- the same, and not all of them
  abbrev pub PutsShort : List (K × V) → ShardState K V S → ShardState K V S → Type 0
  PutsShort = RanShort (λ s p (_ : ⊤) t. PutsPair h s p t)

  -- all that `par_extend` promises: the pairs were inserted, or where it is refused each shard stands after a front of its own, and some shard
  -- not after all of them
  pub record ParExtends (ps : List (K × V)) (old new : AloneState K V S) {E : Type 0} (result : Result (Unit {0}) E) : Type 0 where
    pub gains : OnOk result (Gains old ps new)
    pub fronts : EachPart PutsFront (λ p. (keys_in h old).route p.0) ps old.row new.row
    pub short : OnErr result (SomePart PutsShort (λ p. (keys_in h old).route p.0) ps old.row new.row)
    pub stays : KeepsRoom old new
    pub lawful : IsAlone h new

  -- the same of the shards that the locks of the map m ended with, and of those that the locks of n were made for
  abbrev pub ParExtendsBehind : {E : Type 0} → MapState K V S → MapState K V S → List (K × V) → Result (Unit {0}) E → Type 0
  ParExtendsBehind m n ps result = Relocks h m n (λ old new. ParExtends ps old new result)

  -- the pairs were all put into the shard, one after the other
  abbrev pub PutsAll : List (K × V) → ShardState K V S → ShardState K V S → Type 0
  PutsAll = RanWhole (λ s p (_ : ⊤) t. PutsPair h s p t)

  -- the same of the shard of this number, which was found behind its lock and left there
  abbrev pub PutsBehind : MapState K V S → ℕ → List (K × V) → Type 0
  PutsBehind m i ps = (key : K) → route_by h m.hasher m.amount key ≡ i → LeavesShard h m key (PutsAll ps)

  -- all pairs of the list were put behind the locks of this map, those of each shard in one hold and in the list's order
  abbrev pub PutsEachBehind : MapState K V S → List (K × V) → Type 0
  PutsEachBehind m ps = (let goes : K × V → ℕ = λ p. route_by h m.hasher m.amount p.0 in All (λ p. LeavesShard h m p.0 (PutsAll (steps_of goes (goes p) ps))) ps)
