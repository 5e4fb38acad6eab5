-- A log matches the histories exactly where it is, up to alike, its caller's part of the merge.
use Rattle.std.proofs.Common.{◌≡◌, ℕ, ◌<◌, ◌==◌, Bool, true, false, cond, List, [], ◌∷◌, filter, length, Some, slice_get, get_or, inl, inr, refl, sym, ap, subst, ◌∙◌, eq-eqb, eqb-true}
use Rattle.std.specs.List.{AllZip}
use Rattle.std.proofs.lemmas.Bool.{and_parts, and_from}
use Rattle.std.proofs.lemmas.Option.{slice_get-get_or, slice_get_within}
use Rattle.std.specs.Cmp.Lexicographic.{pointwise}
use Rattle.dash_history.specs.History.{LogRises, alike_record}
use Rattle.dash_history.specs.Merge.{IsMerge, along, of_caller}
use Rattle.dash_history.specs.OneHistory.{of_shard}
use Rattle.dash_history.specs.declared.record.Record.{Record}
use Rattle.dash_history.specs.declared.place.At.{At}
use Rattle.dash_history.proofs.Alongs.{Before, never, Tidy, log-in_order, along-in_order, along-has, has-along, keeps-shard}
use Rattle.dash_history.proofs.Ordered.{Has}
use Rattle.dash_history.proofs.Members.{has-kept, kept-has, in_order-kept, agree}

module _ {X : Type 0} (e : X → X → Bool) where
  abbrev pub Like : X → X → Type 0
  Like x y = e x y ≡ true

  pub zipped : (xs ys : List X) → pointwise e xs ys ≡ true → AllZip Like xs ys
  zipped [] [] h = tt
  zipped [] (y ∷ ys) h = cc
  zipped (x ∷ xs) [] h = cc
  zipped (x ∷ xs) (y ∷ ys) h = let p = and_parts (e x y) (pointwise e xs ys) h in (p.0, zipped xs ys p.1)

  unzipped : (xs ys : List X) → AllZip Like xs ys → pointwise e xs ys ≡ true
  unzipped [] [] h = refl
  unzipped [] (y ∷ ys) h = absurd h
  unzipped (x ∷ xs) [] h = absurd h
  unzipped (x ∷ xs) (y ∷ ys) h = and_from (e x y) (pointwise e xs ys) h.0 (unzipped xs ys h.1)

  -- an element of the one list is like one of the other
  has-like : (xs ys : List X) → AllZip Like xs ys → (x : X) → Has xs x → (y : X) × Has ys y × Like x y
  has-like [] ys z x h = absurd h
  has-like (q ∷ xs) [] z x h = absurd z
  has-like (q ∷ xs) (y ∷ ys) z x (inl p) = (y, inl refl, subst (λ v. Like v y) p z.0)
  has-like (q ∷ xs) (y ∷ ys) z x (inr h) = let r = has-like xs ys z.1 x h in (r.0, inr r.1, r.2)

  pub like-has : (xs ys : List X) → AllZip Like xs ys → (y : X) → Has ys y → (x : X) × Has xs x × Like x y
  like-has xs [] z y h = absurd h
  like-has [] (q ∷ ys) z y h = absurd z
  like-has (x ∷ xs) (q ∷ ys) z y (inl p) = (x, inl refl, subst (Like x) p z.0)
  like-has (x ∷ xs) (q ∷ ys) z y (inr h) = let r = like-has xs ys z.1 y h in (r.0, inr r.1, r.2)

  kept-like : (p : X → Bool) → ((x y : X) → Like x y → p x ≡ p y) → (xs ys : List X) → AllZip Like xs ys → AllZip Like (filter p xs) (filter p ys)
  kept-like p f [] [] z = tt
  kept-like p f [] (y ∷ ys) z = absurd z
  kept-like p f (x ∷ xs) [] z = absurd z
  kept-like p f (x ∷ xs) (y ∷ ys) z =
      let rest = kept-like p f xs ys z.1 in
      rw (f x y z.0) (elim (p y) as (λ b. AllZip Like (cond b (x ∷ filter p xs) (filter p xs)) (cond b (y ∷ filter p ys) (filter p ys))) [ true ↦ (z.0, rest) | false ↦ rest ])

-- two filters in either order
filters : {X : Type 0} (p q : X → Bool) (xs : List X) → filter p (filter q xs) ≡ filter q (filter p xs)
filters p q [] = refl
filters p q (x ∷ xs) = go (filters p q xs) (p x) (q x) refl refl
  where
    go : filter p (filter q xs) ≡ filter q (filter p xs) → (b c : Bool) → p x ≡ b → q x ≡ c → filter p (cond c (x ∷ filter q xs) (filter q xs)) ≡ filter q (cond b (x ∷ filter p xs) (filter p xs))
    go rest true true e f = rw (e, f) (ap (λ l. x ∷ l) rest)
    go rest true false e f = rw f rest
    go rest false true e f = rw e rest
    go rest false false e f = rest

module _ {K V A : Type 0} (k : K → K → Bool) (v : V → V → Bool) (f : A → A → Bool) where
  abbrev pub same : Record K V A → Record K V A → Bool
  same = alike_record k v f

  -- alike records have one stamp, one caller and one shard
  pub tells : (r q : Record K V A) → same r q ≡ true → (r.stamp ≡ q.stamp) × (r.caller ≡ q.caller) × (r.shard ≡ q.shard)
  tells r q h =
      let front = and_parts _ _ (and_parts _ _ (and_parts _ _ h).0).0 in
      let first = and_parts _ _ front.0 in
      (eqb-true _ _ first.0, eqb-true _ _ first.1, eqb-true _ _ front.1)

  back : (a b x y : Record K V A) → same a x ≡ true → same b y ≡ true → Before a b → Before x y
  back a b x y e g o = let p = tells a x e in let q = tells b y g in rw (sym p.0, sym p.2, sym q.0, sym q.2) o

  forth : (a b x y : Record K V A) → same a x ≡ true → same b y ≡ true → Before x y → Before a b
  forth a b x y e g o = let p = tells a x e in let q = tells b y g in rw (p.0, p.2, q.0, q.2) o

  module _ (hs : List (List (Record K V A))) (ats : List At) (tidy : Tidy hs) (merge : IsMerge hs ats) (j : ℕ) (entries : List (Record K V A)) where
    -- where of each shard the log says what the history says, so it does along the merge
    pub order-from-match : LogRises entries → ((r : Record K V A) → Has entries r → r.shard < length hs)
        → ((s : ℕ) (h : List (Record K V A)) → slice_get hs s ≡ Some h → pointwise same (of_caller j h) (of_shard s entries) ≡ true) → pointwise same (of_caller j (along hs ats)) entries ≡ true
    order-from-match rises shards match = unzipped same (of_caller j (along hs ats)) entries
        (agree Before never (Like same) back forth (of_caller j (along hs ats)) entries
        (in_order-kept Before (λ r. r.caller == j) (along hs ats) (along-in_order hs ats tidy merge))
        (log-in_order entries rises)
        (λ r m.
        let o = has-kept (λ r. r.caller == j) (along hs ats) r m in
        let g = along-has hs ats tidy merge r o.0 in
        let p = has-like same (of_caller j g.0) (of_shard r.shard entries) (zipped same _ _ (match r.shard g.0 g.1)) r (kept-has (λ r. r.caller == j) g.0 r g.2 o.1) in
        (p.0, (has-kept (λ q. q.shard == r.shard) entries p.0 p.1).0, p.2))
        (λ q m.
        let h = get_or hs q.shard [] in
        let e = slice_get-get_or hs q.shard [] (shards q m) in
        let p = like-has same (of_caller j h) (of_shard q.shard entries) (zipped same _ _ (match q.shard h e)) q (kept-has (λ r. r.shard == q.shard) entries q m (eq-eqb q.shard q.shard refl)) in
        let o = has-kept (λ r. r.caller == j) h p.0 p.1 in
        (p.0, kept-has (λ r. r.caller == j) (along hs ats) p.0 (has-along hs ats tidy merge q.shard h p.0 e o.0) o.1, p.2)))

    module _ (order : pointwise same (of_caller j (along hs ats)) entries ≡ true) where
      pub shards-from-order : (q : Record K V A) → Has entries q → q.shard < length hs
      shards-from-order q m =
          let p = like-has same (of_caller j (along hs ats)) entries (zipped same _ _ order) q m in
          let g = along-has hs ats tidy merge p.0 (has-kept (λ r. r.caller == j) (along hs ats) p.0 p.1).0 in
          subst (λ n. n < length hs) (tells p.0 q p.2).2 (slice_get_within hs p.0.shard g.0 g.1)

      pub match-from-order : (s : ℕ) (h : List (Record K V A)) → slice_get hs s ≡ Some h → pointwise same (of_caller j h) (of_shard s entries) ≡ true
      match-from-order s h e =
          let both = kept-like same (λ r. r.shard == s) (λ a b g. ap (λ n. n == s) (tells a b g).2) (of_caller j (along hs ats)) entries (zipped same _ _ order) in
          let turned : of_shard s (of_caller j (along hs ats)) ≡ of_caller j h = filters (λ r. r.shard == s) (λ r. r.caller == j) (along hs ats) ∙ ap (of_caller j) (keeps-shard hs ats tidy merge s h e) in
          unzipped same (of_caller j h) (of_shard s entries) (subst (λ l. AllZip (Like same) l (of_shard s entries)) turned both)
