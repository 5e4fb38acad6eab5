-- Closures that only read, along a list of pairs or of keys.
use Rattle.std.specs.Prelude.{◌≡◌, List}
use Rattle.std.specs.Fn.{Mut, Takes, Called}
use Rattle.std.specs.List.{FoldsTo}
use denote.Ref.{Bor}

-- a call is lent a pair: a `&` to its key, and one to its value
abbrev pub of_pair : {K V : Type 0} → Bor K × (Bor V × Unit {0}) → K × V → Type 0
of_pair a p = (a.0.now ≡ p.0) × (a.1.0.now ≡ p.1)

-- or a key
abbrev pub of_key : {K : Type 0} → Bor K × Unit {0} → K → Type 0
of_key a k = a.0.now ≡ k

-- f makes one value of another and an item that it is lent, again and again
module _ {F A X T : Type 0} (lent : A → X → Type 0) (g : Mut F (T × A) T) where
  -- a call of f at a value and an item gives the next value, and leaves f as it then is
  abbrev pub Folds : F × T → X → F × T → Type 0
  Folds from x to = (a : A) × lent a x × Called g from.0 (from.1, a) to.1 to.0

  -- f was called at each of these items in turn, from first on, and result is what the last call gave
  abbrev pub FoldsEach : F → T → List X → T → Type 0
  FoldsEach f first xs result = (last : F) × FoldsTo Folds (f, first) xs (last, result)

  -- f may be called so along any items
  abbrev pub MayFold : F → T → Type 0
  MayFold f first = (xs : List X) (to : F × T) (a : A) → FoldsTo Folds (f, first) xs to → Takes g to.0 (to.1, a)

-- f returns nothing
module _ {F A X : Type 0} (lent : A → X → Type 0) (g : Mut F A (Unit {0})) where
  abbrev pub Visits : F → X → F → Type 0
  Visits f x to = (a : A) × lent a x × Called g f a tt to

  -- f was called at each of these items in turn
  abbrev pub VisitsEach : F → List X → Type 0
  VisitsEach f xs = (last : F) × FoldsTo Visits f xs last

  -- f may be called so along any items
  abbrev pub MayVisit : F → Type 0
  MayVisit f = (xs : List X) (to : F) (a : A) → FoldsTo Visits f xs to → Takes g to a
