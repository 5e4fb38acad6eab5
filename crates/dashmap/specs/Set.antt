-- A set is a map to unit: what its calls ask and return, in the words of that map.
use Rattle.std.specs.Prelude.{◌≡◌, Bool, List, Option, Some, None, Result, Ok, Err, map, if◌then◌else◌}
use Rattle.std.specs.Option.{option_map}
use Rattle.std.specs.Fn.{Once, Mut, Shared, FnOnceReturnsAt, CalledAt, TakesAt}
use denote.Ref.{Bor}
use Rattle.dash_shard.specs.declared.shard.InsertRefused.{InsertRefused}

-- the old value of a key that an `insert` said to be new, or not to be
abbrev pub stood : Bool → Option (Unit {0})
stood new = if new then None else Some tt

module _ {K : Type 0} where
  -- the pair of a key, if there is one
  abbrev pub member : Option K → Option (K × Unit {0})
  member o = option_map (λ k. (k, tt)) o

  -- what the map's `insert` returns where the set's returns this
  abbrev pub inserted : Result Bool K → Result (Option (Unit {0})) (InsertRefused K (Unit {0}))
  inserted (Ok new) = Ok (stood new)
  inserted (Err k) = Err (record { key = k; value = tt })

  -- the steps of an iterator over keys, which gave the key of a pair
  abbrev pub of_members : {T : Type 0} → (T → Option K → T → Type 0) → T → Option (K × Unit {0}) → T → Type 0
  of_members gives s r t = gives s (option_map (λ p. p.0) r) t

  -- keys, each with unit
  abbrev pub members : List K → List (K × Unit {0})
  members ks = map (λ k. (k, tt)) ks

  -- the keys of pairs
  abbrev pub keys_of : List (K × Unit {0}) → List K
  keys_of ps = map (λ p. p.0) ps

module _ {F K : Type 0} where
  -- f may give the action's answer at the key
  abbrev pub AnsweredKey : Once F (Bor K × Unit {0}) Bool → F → K × Unit {0} → Unit {0} × Bool → Type 0
  AnsweredKey g f p d = FnOnceReturnsAt g f p.0 d.1

  -- f may be called at the key of a pair, as other calls left it
  abbrev pub TakesKey : Mut F (Bor K × Unit {0}) Bool → F → K → Unit {0} → Type 0
  TakesKey g f k v = TakesAt g f k

  -- and such a call may return b, and leave f'
  abbrev pub CalledAtKey : Mut F (Bor K × Unit {0}) Bool → F → K → Unit {0} → Bool → Unit {0} → F → Type 0
  CalledAtKey g f k v b w f' = CalledAt g f k b f'

module _ {F K T : Type 0} (g : Shared F (Bor K × Unit {0}) T) (f : F) where
  -- f may be called at the key, by several threads
  abbrev pub MayMapKey : K → Type 0
  MayMapKey k = (p : Bor K) → p.now ≡ k → g.pre f (p, tt)
