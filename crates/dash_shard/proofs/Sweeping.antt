-- A walk over all slots of a table, which calls a closure at the pair of each.
use Rattle.std.proofs.Common.{◌≡◌, ℕ, zero, suc, ◌+◌, ◌-◌, ◌<◌, ◌≤◌, Bool, true, false, List, map, [], ◌∷◌, ◌++◌, length, set, Option, Some, None, IfSome, IsSome, refl, sym, ap, subst, ◌∙◌, arith, append_assoc, append-nil}
use Rattle.std.proofs.Math.ListN.{take, drop, length-set}
use Rattle.std.proofs.Math.Seq.{drop-cons, drop-length, take-length}
use Rattle.std.proofs.lemmas.Bool.{true≢false}
use Rattle.std.proofs.lemmas.List.{take_more_set, drop-set-lt, set-set}
use Rattle.std.specs.Map.Calls.{CallableOnEachPair}
use Rattle.dash_shard.specs.Shard.{slot, taken}
use Rattle.dash_shard.specs.declared.shard.table.cursor.Cursor.{Cursor}
use Rattle.dash_shard.specs.inner.Table.{IsHashed}
use Rattle.dash_shard.specs.inner.Cursors.{IsSlotCursor, Advances}
use Rattle.dash_shard.specs.inner.Walks.{Visits, Sweeps, Asks, if_kept}
use Rattle.dash_shard.proofs.Cursors.{cursor-behind}
use Rattle.dash_shard.proofs.Shards.{hashed-replace, hashed-clear}
use Rattle.dash_shard.proofs.Slots.{length-taken-clear}
use Rattle.dash_shard.proofs.Written.{spot-within}

-- an empty slot is emptied
set-none : {A : Type 0} (xs : List (Option A)) (i : ℕ) → slot xs i ≡ None → xs ≡ set xs i None
set-none [] i e = refl
set-none (x ∷ xs) zero e = ap (λ o. o ∷ xs) e
set-none (x ∷ xs) (suc i) e = ap (λ l. x ∷ l) (set-none xs i e)

module _ {F K V : Type 0} (T : F → K → V → Bool → V → F → Type 0) (Q : F → K → V → Type 0) (leaves : K → V × Bool → Option (K × V)) where
  -- the slots below i were visited, those from i on are as they were
  pub record Sweeping (first : F) (old : List (Option (K × V))) (f : F) (now : List (Option (K × V))) (i : ℕ) : Type 0 where
    pub ready : CallableOnEachPair T Q f (taken (drop i now))
    pub rest : (news : List (Option (K × V))) (last : F) → Sweeps T leaves f (drop i now) news last → Sweeps T leaves first old (take i now ++ news) last

  pub sweeping-first : (f : F) (old : List (Option (K × V))) → CallableOnEachPair T Q f (taken old) → Sweeping f old f old 0
  sweeping-first f old callable = record { ready = callable; rest = λ news last s. s }

  begins : (xs : List (Option (K × V))) (i : ℕ) → i < length xs → drop i xs ≡ slot xs i ∷ drop (i + 1) xs
  begins xs i lt = drop-cons xs i None lt ∙ ap (λ n. slot xs i ∷ drop n xs) (let s : suc i ≡ i + 1 = omega arith in s)

  module _ (first : F) (old : List (Option (K × V))) (f : F) (now : List (Option (K × V))) (i : ℕ) (lt : i < length now) (s : Sweeping first old f now i) where
    here : CallableOnEachPair T Q f (taken (slot now i ∷ drop (i + 1) now))
    here = subst (λ xs. CallableOnEachPair T Q f (taken xs)) (begins now i lt) s.ready

    -- the closure may be called at the next slot
    pub sweeping-ready : IfSome (slot now i) (λ p. Q f p.0 p.1)
    sweeping-ready = from (slot now i) here
      where
        from : (o : Option (K × V)) → CallableOnEachPair T Q f (taken (o ∷ drop (i + 1) now)) → IfSome o (λ p. Q f p.0 p.1)
        from None c = tt
        from (Some p) c = c.at [] _ f p.0 p.1 refl refl

    -- and was
    pub sweeping-next : (new : Option (K × V)) (f' : F) (then : List (Option (K × V))) → Visits T leaves f (slot now i) new f' → then ≡ set now i new → Sweeping first old f' then (i + 1)
    sweeping-next new f' then v is = record {
      ready = subst (λ xs. CallableOnEachPair T Q f' (taken xs)) (sym behind) (from (slot now i) here v);
      rest = λ news last r. subst (λ xs. Sweeps T leaves first old xs last) (sym (front news))
          (s.rest (new ∷ news) last (subst (λ xs. Sweeps T leaves f xs (new ∷ news) last) (sym (begins now i lt)) (new, f', news, v, refl, subst (λ xs. Sweeps T leaves f' xs news last) behind r)));
    }
      where
        behind : drop (i + 1) then ≡ drop (i + 1) now
        behind = ap (drop (i + 1)) is ∙ drop-set-lt (i + 1) now i new (omega arith)

        front : (news : List (Option (K × V))) → take (i + 1) then ++ news ≡ take i now ++ new ∷ news
        front news = ap (λ xs. take (i + 1) xs ++ news) is ∙ ap (λ xs. xs ++ news) (take_more_set now i new lt) ∙ append_assoc (take i now) (new ∷ []) news

        from : (o : Option (K × V)) → CallableOnEachPair T Q f (taken (o ∷ drop (i + 1) now)) → Visits T leaves f o new f' → CallableOnEachPair T Q f' (taken (drop (i + 1) now))
        from None c w = subst (λ x. CallableOnEachPair T Q x (taken (drop (i + 1) now))) w.1 c
        from (Some p) c w = record { at = λ before after g k x e r. c.at (p ∷ before) after g k x (ap (λ m. p ∷ m) e) (f', (w.0, w.1, w.2), r) }

  -- a walk goes past empty slots
  pub sweeping-past : (first : F) (old : List (Option (K × V))) (f : F) (now : List (Option (K × V))) (i j : ℕ) → i ≤ j → j ≤ length now → ((k : ℕ) → i ≤ k → k < j → slot now k ≡ None) → Sweeping first old f now i → Sweeping first old f now j
  sweeping-past first old f now i j le within none s = subst (Sweeping first old f now) (let e : i + (j - i) ≡ j = omega (arith, le) in e) (go (j - i) (omega (arith, le)))
    where
      go : (n : ℕ) → i + n ≤ j → Sweeping first old f now (i + n)
      go zero below = subst (Sweeping first old f now) (let e : i ≡ i + 0 = omega arith in e) s
      go (suc n) below =
          let here = none (i + n) (omega arith) (omega (arith, below)) in
          let more = sweeping-next first old f now (i + n) (omega (arith, below, within)) (go n (omega (arith, below))) None f now (subst (λ o. Visits T leaves f o None f) (sym here) (refl, refl)) (set-none now (i + n) here) in
          subst (Sweeping first old f now) (let e : i + n + 1 ≡ i + suc n = omega arith in e) more

  -- all were
  pub sweeping-last : (first : F) (old : List (Option (K × V))) (f : F) (now : List (Option (K × V))) (i : ℕ) → i ≡ length now → Sweeping first old f now i → Sweeps T leaves first old now f
  sweeping-last first old f now i all s =
      let none : drop i now ≡ [] = ap (λ n. drop n now) all ∙ drop-length now in
      let whole : take i now ++ [] ≡ now = append-nil (take i now) ∙ ap (λ n. take n now) all ∙ take-length now in
      subst (λ xs. Sweeps T leaves first old xs f) whole (s.rest [] f (subst (λ xs. Sweeps T leaves f xs [] f) (sym none) (refl, refl)))

-- a walk with a cursor: the slots below its position were visited, those from there on are as they were
module _ {F K V : Type 0} (T : F → K → V → Bool → V → F → Type 0) (Q : F → K → V → Type 0) (leaves : K → V × Bool → Option (K × V)) where
  pub record Walked (first : F) (old : List (Option (K × V))) (f : F) (now : List (Option (K × V))) (c : Cursor) : Type 0 where
    pub sweeping : Sweeping T Q leaves first old f now c.position
    pub within : c.position ≤ length now
    pub cursor : IsSlotCursor now c

  module _ (first : F) (old : List (Option (K × V))) (f : F) (now : List (Option (K × V))) (c c' : Cursor) (w : Walked first old f now c) where
    module _ (i : ℕ) (step : Advances now c (Some i) c') where
      come : i < length now
      come = spot-within now i step.next.1

      arrived : Sweeping T Q leaves first old f now i
      arrived = sweeping-past T Q leaves first old f now c.position i step.next.0 (omega (arith, come)) step.next.2 w.sweeping

      -- the closure may be called at the slot that a step came to
      pub walked-ready : IfSome (slot now i) (λ p. Q f p.0 p.1)
      walked-ready = sweeping-ready T Q leaves first old f now i come arrived

      -- and was
      pub walked-next : (new : Option (K × V)) (f' : F) (then : List (Option (K × V))) → Visits T leaves f (slot now i) new f' → then ≡ set now i new → Walked first old f' then c'
      walked-next new f' then v is = record {
        sweeping = subst (Sweeping T Q leaves first old f' then) (sym step.position) (sweeping-next T Q leaves first old f now i come arrived new f' then v is);
        within = omega (arith, step.position, come, ap length is ∙ length-set now i new);
        cursor = cursor-behind now then c' i new step.position is step.cursor;
      }

    -- at the end all were visited
    pub walked-all : Advances now c None c' → Sweeps T leaves first old now f
    walked-all step =
        sweeping-last T Q leaves first old f now (length now) refl (sweeping-past T Q leaves first old f now c.position (length now) w.within (omega arith) (λ k from _. step.next k from) w.sweeping)

-- behind a step fewer slots are left to visit
pub fewer-left : {A : Type 0} (now : List (Option A)) (c c' : Cursor) (i n : ℕ) → Advances now c (Some i) c' → n ≡ length now → n - c'.position < length now - c.position
fewer-left now c c' i n step same = let within = spot-within now i step.next.1 in omega (arith, same, within, step.next.0, step.position)

-- a slot that is taken is counted
pub taken-some : {A : Type 0} (xs : List (Option A)) (i : ℕ) → IsSome (slot xs i) → 0 < length (taken xs)
taken-some {A} xs i some = from (slot xs i) refl some
  where
    from : (o : Option A) → slot xs i ≡ o → IsSome o → 0 < length (taken xs)
    from None e s = absurd (true≢false (sym s))
    from (Some q) e s = omega (arith, length-taken-clear xs i q e)

-- f was asked at a slot: the value that it left stays there on yes, and the slot is emptied on no
module _ {F K V : Type 0} (T : F → K → V → Bool → V → F → Type 0) (f f' : F) (xs ys : List (Option (K × V))) (i : ℕ) (b : Bool)
    (a : Asks T f (slot xs i) b (slot ys i) f') (is : ys ≡ set xs i (slot ys i)) where
  pub asked-yes : b ≡ true → Visits T if_kept f (slot xs i) (slot ys i) f'
  asked-yes said = from (slot xs i) (slot ys i) a
    where
      from : (o n : Option (K × V)) → Asks T f o b n f' → Visits T if_kept f o n f'
      from None n x = (x.1, x.2)
      from (Some p) n x = (true, x.0, subst (λ c. T f p.0 p.1 c x.0 f') said x.1, x.2)

  pub asked-no : b ≡ false → Visits T if_kept f (slot xs i) None f'
  asked-no said = from (slot xs i) (slot ys i) a
    where
      from : (o n : Option (K × V)) → Asks T f o b n f' → Visits T if_kept f o None f'
      from None n x = absurd (true≢false (sym x.0 ∙ said))
      from (Some p) n x = (false, x.0, subst (λ c. T f p.0 p.1 c x.0 f') said x.1, refl)

  -- the key stays, and so does its hash beside it
  pub asked-hashed : (hash : K → ℕ) (hs : List ℕ) → i < length xs → IsHashed hash xs hs → IsHashed hash ys hs
  asked-hashed hash hs within h = subst (λ zs. IsHashed hash zs hs) (sym is) (from (slot xs i) refl (slot ys i) a)
    where
      from : (o : Option (K × V)) → slot xs i ≡ o → (n : Option (K × V)) → Asks T f o b n f' → IsHashed hash (set xs i n) hs
      from None e n x = subst (λ m. IsHashed hash (set xs i m) hs) (sym x.1) (hashed-clear hash xs hs i within h)
      from (Some p) e n x = subst (λ m. IsHashed hash (set xs i m) hs) (sym x.2) (hashed-replace hash xs hs i p (p.0, x.0) within e refl h)

  -- the slot's pair was taken out then
  pub asked-cleared : (zs : List (Option (K × V))) → zs ≡ set ys i None → zs ≡ set xs i None
  asked-cleared zs e = e ∙ ap (λ l. set l i None) is ∙ set-set xs i (slot ys i) None

-- no pair
pub taken-none : {A B : Type 0} (xs : List A) → taken {A = B} (map (λ _. None) xs) ≡ []
taken-none [] = refl
taken-none (x ∷ xs) = taken-none xs
