-- A closure along pairs, one call after the other.
use Rattle.std.proofs.Common.{◌≡◌, ℕ, ◌+◌, List, [], ◌∷◌, ◌++◌, map, flat_map, append-nil, refl, sym, ap, subst, ◌∙◌}
use Rattle.std.proofs.lemmas.Grind.{flat_map-append}
use Rattle.std.proofs.lemmas.List.{map-append}
use Rattle.std.specs.Fn.{Mut}
use Rattle.std.specs.List.{FoldsTo}
use Rattle.dash_shard.specs.Lock.{WasRead}
use Rattle.dash_shard.specs.Hashing.{KeyHash}
use Rattle.dash_shard.specs.Shard.{ShardState, IsTagged, pairs}
use Rattle.dash_map.specs.Folds.{Folds, MayFold, MayVisit, Visits}
use Rattle.dash_map.specs.Map.{MapState}
use Rattle.dash_map.proofs.Seeing.{SeenSo, seen-more}

-- the keys of pairs
abbrev pub keys_of : {K V : Type 0} → List (K × V) → List K
keys_of ps = map (λ p. p.0) ps

module _ {P A : Type 0} (R : P → A → P → Type 0) where
  -- what is so of each turn is so of turns along two lists
  pub along-append : (xs ys : List A) (p q r : P) → FoldsTo R p xs q → FoldsTo R q ys r → FoldsTo R p (xs ++ ys) r
  along-append [] ys p q r h k = subst (λ s. FoldsTo R s ys r) (sym h) k
  along-append (x ∷ xs) ys p q r h k = (h.0, h.1, along-append xs ys h.0 q r h.2 k)

  -- Q is so of whatever turns lead to from there
  abbrev pub Ready : (P → Type 0) → P → Type 0
  Ready Q p = (xs : List A) (to : P) → FoldsTo R p xs to → Q to

  module _ (Q : P → Type 0) (first : P) (all : List A) where
    -- the turns so far, and the items that are left to come: whatever turns follow along these, all go along all items
    pub record Going (left : List A) (to : P) : Type 0 where
      pub ready : Ready Q to
      pub goes : (last : P) → FoldsTo R to left last → FoldsTo R first all last

    pub going-first : Ready Q first → (left : List A) → left ≡ all → Going left first
    going-first may left e = record { ready = may; goes = λ last h. subst (λ l. FoldsTo R first l last) e h }

    pub going-next : (left : List A) (to : P) → Going left to → (x : A) (rest : List A) → left ≡ x ∷ rest → (next : P) → R to x next → Going rest next
    going-next left to so x rest e next turn = record {
      ready = λ xs last h. so.ready (x ∷ xs) last (next, turn, h);
      goes = λ last h. so.goes last (subst (λ l. FoldsTo R to l last) (sym e) (next, turn, h));
    }

    pub going-last : (left : List A) (to : P) → Going left to → left ≡ [] → FoldsTo R first all to
    going-last left to so e = so.goes to (subst (λ l. FoldsTo R to l to) (sym e) refl)

-- Turns along the items of shards that were seen, each as it stood when it was held.
module _ {K V S P A : Type 0} (h : KeyHash K S) (m : MapState K V S) (R : P → A → P → Type 0) (items : ShardState K V S → List A) (first : P) where
  -- of the shards in front of n
  abbrev pub Along : ℕ → P → Type 0
  Along n to = SeenSo h m n (λ row. FoldsTo R first (flat_map items row) to)

  -- and of one shard more, whose items are these
  pub along-shard : (n : ℕ) (q r : P) → Along n q → (s : ShardState K V S) → IsTagged h m.hasher m.amount n s → WasRead s → (xs : List A) → xs ≡ items s → FoldsTo R q xs r → Along (n + 1) r
  along-shard n q r so s tagged found xs are turns =
      let more = flat_map-append items so.0 (s ∷ []) ∙ ap (λ l. flat_map items so.0 ++ l) (append-nil (items s)) in
      let here = subst (λ l. FoldsTo R q l r) are turns in
      seen-more h m _ n so s tagged found (subst (λ l. FoldsTo R first l r) (sym more) (along-append R (flat_map items so.0) (items s) first q r so.2 here))

-- turns along the keys of shards, each by itself, are turns along the keys of all their pairs
pub along-keys : {K V S P : Type 0} (R : P → K → P → Type 0) (from to : P) (row : List (ShardState K V S)) → FoldsTo R from (flat_map (λ s. keys_of (pairs s)) row) to → FoldsTo R from (keys_of (flat_map pairs row)) to
along-keys {K} {V} {S} R from to row turns = subst (λ ks. FoldsTo R from ks to) (flat row) turns
  where
    flat : (row : List (ShardState K V S)) → flat_map (λ s. keys_of (pairs s)) row ≡ keys_of (flat_map pairs row)
    flat [] = refl
    flat (s ∷ row) = ap (λ l. keys_of (pairs s) ++ l) (flat row) ∙ sym (map-append (λ p. p.0) (pairs s) (flat_map pairs row))

-- a closure that may be called along any items may go on so
pub fold-on : {F A X T : Type 0} (lent : A → X → Type 0) (g : Mut F (T × A) T) (p q : F × T) (xs : List X) → MayFold lent g p.0 p.1 → FoldsTo (Folds lent g) p xs q → MayFold lent g q.0 q.1
fold-on lent g p q xs may h = λ ys next a more. may (xs ++ ys) next a (along-append (Folds lent g) xs ys p q next h more)

pub visit-on : {F A X : Type 0} (lent : A → X → Type 0) (g : Mut F A (Unit {0})) (p q : F) (xs : List X) → MayVisit lent g p → FoldsTo (Visits lent g) p xs q → MayVisit lent g q
visit-on lent g p q xs may h = λ ys next a more. may (xs ++ ys) next a (along-append (Visits lent g) xs ys p q next h more)
