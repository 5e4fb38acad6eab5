-- What workers did side by side, told as one walk along the shards.
use Rattle.std.proofs.Common.{◌≡◌, ℕ, zero, suc, ◌+◌, ◌-◌, ◌<◌, Bool, List, [], ◌∷◌, ◌++◌, Option, Some, None, flat_map, map, refl, sym, subst, arith, append_assoc, append-nil}
use Rattle.std.specs.Prelude.{Result, Ok, IfOk}
use Rattle.std.specs.List.{All, AllZip, range_with_len}
use Rattle.std.specs.Cmp.{IsEquivalence}
use Rattle.rayon.proofs.ListFacts.{AllZip-append}
use Rattle.rayon.proofs.ToStd.{nat_range-All}
use Rattle.rayon.specs.Numbers.{nat_range}
use Rattle.dash_shard.specs.Hashing.{KeyHash}
use Rattle.dash_shard.specs.Shard.{ShardState, pairs}
use Rattle.dash_shard.specs.inner.Walks.{Sweeps, SweepsShard, altered}
use Rattle.dash_map.specs.Alone.{contents}
use Rattle.dash_map.specs.AllPairs.{AltersAllAlone}
use Rattle.dash_map.specs.Behind.{SawShards, LeavesShards}
use Rattle.dash_map.specs.Map.{MapState}
use Rattle.dash_map.specs.inner.Parallel.{SawNumber, LeavesNumber}
use Rattle.dash_map.proofs.Seeing.{IsWhole, SeenSo, seen-none, seen-more, seen-all}
use Rattle.dash_map.proofs.Leaving.{Going, going-first, going-next, all-altered}

-- what is so of each result and what is in its `Ok`, where all are `Ok`
pub AllZip-Ok : {X T : Type 0} (E : Type 0) (R : X → T → Type 0) (xs : List X) (ys : List T) → AllZip (λ x (r : Result T E). IfOk r (R x)) xs (map Ok ys) → AllZip R xs ys
AllZip-Ok E R [] [] each = tt
AllZip-Ok E R [] (y ∷ ys) each = absurd each
AllZip-Ok E R (x ∷ xs) [] each = absurd each
AllZip-Ok E R (x ∷ xs) (y ∷ ys) each = (each.0, AllZip-Ok E R xs ys each.1)

module _ {X Y A B : Type 0} (R : A → B → Type 0) (f : X → List A) (g : Y → List B) where
  -- what is so place by place of the lists at each place of two lists, is so of all of them, one after the other
  pub AllZip-flat_map : (xs : List X) (ys : List Y) → AllZip (λ x y. AllZip R (f x) (g y)) xs ys → AllZip R (flat_map f xs) (flat_map g ys)
  AllZip-flat_map [] [] each = tt
  AllZip-flat_map [] (y ∷ ys) each = absurd each
  AllZip-flat_map (x ∷ xs) [] each = absurd each
  AllZip-flat_map (x ∷ xs) (y ∷ ys) each = AllZip-append R (f x) (flat_map f xs) (g y) (flat_map g ys) each.0 (AllZip-flat_map xs ys each.1)

-- the numbers of a range from 0 up to n
module _ (start end n : ℕ) (from : start ≡ 0) (up : end ≡ n) where
  pub at-numbers : (P : ℕ → Type 0) → ((i : ℕ) → i < n → P i) → All P (nat_range start end)
  at-numbers P is = nat_range-All P start end (λ i low high. is i (omega arith))

  pub numbers : nat_range start end ≡ range_with_len 0 n
  numbers = let long : end - start ≡ n = omega arith in (λ i. range_with_len (from i) (long i))

-- a walk with a closure is one with a closure that it calls, which stays as it is
module _ {F G K V : Type 0} (T : G → K → V → Bool → V → G → Type 0) (U : F → K → V → Bool → V → F → Type 0) (leaves : K → V × Bool → Option (K × V)) (f : F) (Has : G → Type 0)
    (turn : (g : G) (k : K) (v : V) (b : Bool) (w : V) (g' : G) → Has g → T g k v b w g' → Has g' × U f k v b w f) where
  pub sweeps-by : (g last : G) (xs ys : List (Option (K × V))) → Has g → Sweeps T leaves g xs ys last → Sweeps U leaves f xs ys f
  sweeps-by g last [] ys has s = (s.0, refl)
  sweeps-by g last (None ∷ xs) ys has s = (s.0, f, s.2, (s.3.0, refl), s.4, sweeps-by s.1 last xs s.2 (subst Has s.3.1 has) s.5)
  sweeps-by g last (Some p ∷ xs) ys has s =
      let did = turn g p.0 p.1 s.3.0 s.3.1 s.1 has s.3.2 in
      (s.0, f, s.2, (s.3.0, s.3.1, did.1, s.3.3), s.4, sweeps-by s.1 last xs s.2 did.0 s.5)

module _ {K V S : Type 0} (h : KeyHash K S) (m : MapState K V S) where
  module _ {Y : Type 0} (P : ShardState K V S → Y → Type 0) where
    -- what was seen at k numbers from a on, behind what was seen below them
    seen-along : (a k : ℕ) (had ys : List Y) → SeenSo h m a (λ row. AllZip P row had) → AllZip (λ i y. SawNumber h m i (λ s. P s y)) (range_with_len a k) ys
        → SeenSo h m (a + k) (λ row. AllZip P row (had ++ ys))
    seen-along a zero had [] so each =
        let number : a ≡ a + 0 = omega arith in
        subst (λ n. SeenSo h m n (λ row. AllZip P row (had ++ []))) number (subst (λ ys. SeenSo h m a (λ row. AllZip P row ys)) (sym (append-nil had)) so)
    seen-along a zero had (y ∷ ys) so each = absurd each
    seen-along a (suc k) had [] so each = absurd each
    seen-along a (suc k) had (y ∷ ys) so each =
        let s = each.0.0 in
        let next = seen-more h m (λ row. AllZip P row (had ++ y ∷ [])) a so s each.0.1 each.0.2 (AllZip-append P so.0 (s ∷ []) had (y ∷ []) so.2 (each.0.3, tt)) in
        let number : a + 1 + k ≡ a + suc k = omega arith in
        subst (λ n. SeenSo h m n (λ row. AllZip P row (had ++ y ∷ ys))) number
        (subst (λ all. SeenSo h m (a + 1 + k) (λ row. AllZip P row all)) (append_assoc had (y ∷ []) ys) (seen-along (a + 1) k (had ++ y ∷ []) ys next each.1))

  module _ {Y A : Type 0} (R : K × V → A → Type 0) (items : Y → List A) where
    -- what is so at each number, of the pairs and of the items beside them, is so of all pairs and all items
    pub all-seen-with : (ys : List Y) → IsWhole m m.amount → AllZip (λ i y. SawNumber h m i (λ s. AllZip R (pairs s) (items y))) (range_with_len 0 m.amount) ys
        → SawShards h m (λ a. AllZip R (contents a) (flat_map items ys))
    all-seen-with ys all each =
        let P : ShardState K V S → Y → Type 0 = λ s y. AllZip R (pairs s) (items y) in
        let number : 0 + m.amount ≡ m.amount = omega arith in
        let so = subst (λ n. SeenSo h m n (λ row. AllZip P row ys)) number (seen-along P 0 m.amount [] ys (seen-none h m (λ row. AllZip P row []) tt) each) in
        let seen = seen-all h m (λ row. AllZip P row ys) m.amount so all in
        (seen.0, seen.1, AllZip-flat_map R pairs items seen.0.row ys seen.2)

  module _ {F : Type 0} (T : F → K → V → Bool → V → F → Type 0) (f : F) where
    -- a closure that stays as it is may be called as long as it is asked to
    abbrev Q : F → K → V → Type 0
    Q _ _ _ = Unit {0}

    -- what was left at k numbers from a on, behind what was left below them
    going-along : (a k : ℕ) (us : List (Unit {0})) → Going h m T Q altered f a f → AllZip (λ i _. LeavesNumber h m i (SweepsShard T altered f f)) (range_with_len a k) us
        → Going h m T Q altered f (a + k) f
    going-along a zero us so each =
        let number : a ≡ a + 0 = omega arith in
        subst (λ n. Going h m T Q altered f n f) number so
    going-along a (suc k) [] so each = absurd each
    going-along a (suc k) (u ∷ us) so each =
        let l = each.0 in
        let next = going-next h m T Q altered f a f so l.0 l.3.0 f l.1 l.2 l.3.3 l.3.1 l.3.2 in
        let number : a + 1 + k ≡ a + suc k = omega arith in
        subst (λ n. Going h m T Q altered f n f) number (going-along (a + 1) k us next each.1)

    -- at all numbers
    pub all-written : IsEquivalence h.eq → (us : List (Unit {0})) → IsWhole m m.amount → AllZip (λ i _. LeavesNumber h m i (SweepsShard T altered f f)) (range_with_len 0 m.amount) us
        → LeavesShards h m (AltersAllAlone h.eq T f)
    all-written laws us all each =
        let number : 0 + m.amount ≡ m.amount = omega arith in
        let gone = going-along 0 m.amount us (going-first h m T Q altered f (λ ps. record { at = λ _ _ _ _ _ _ _. tt })) each in
        all-altered h m T Q f laws m.amount f all (subst (λ n. Going h m T Q altered f n f) number gone)
