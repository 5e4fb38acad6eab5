-- Replies that are handed out again, each to the place of its step.
use Rattle.std.proofs.Common.{◌≡◌, ℕ, suc, ◌<◌, List, [], ◌∷◌, ◌++◌, All, map, length, get_or, set, drop, Option, Some, None, refl, sym, ap, ap₂, subst, ◌∙◌, append_assoc, append-nil, inl, inr, arith, eq-eqb, ne_eqb, get_or-set_same, get_or-set_other, length-set}
use Rattle.std.specs.Prelude.{reverse, slice_get, IsSome}
use Rattle.std.specs.Option.{option_to_list}
use Rattle.std.specs.List.{zip}
use Rattle.std.proofs.lemmas.List.{reverse-append, map-set, get_or-map}
use Rattle.std.proofs.lemmas.List.Elements.{All-head, All-tail}
use Rattle.std.proofs.lemmas.Bool.{cases_eq}
use Rattle.dash_rows.specs.Apart.{of_part, steps_of}
use Rattle.dash_rows.specs.inner.Rows.{replied, untaken}
use Rattle.dash_rows.specs.inner.Lanes.{handed, queues}
use Rattle.dash_rows.specs.declared.workers.lane.Lane.{Lane}

-- what is popped of a list is the first of the list turned round
pop-first : {Y : Type 0} (items left : List Y) (o : Option Y) → items ≡ left ++ option_to_list o → (0 < length items → IsSome o) → (slice_get (reverse items) 0 ≡ o) × (drop 1 (reverse items) ≡ reverse left)
pop-first items left (Some y) e some = let turned = ap reverse e ∙ reverse-append left (y ∷ []) in (ap (λ l. slice_get l 0) turned, ap (drop 1) turned)
pop-first [] left None e some = (refl, ap reverse (e ∙ append-nil left))
pop-first {Y} (y ∷ ys) left None e some = let h : IsSome {T = Y} None = some (omega arith) in let no : ⊥ = cc in absurd no

pub length-handed : {Y : Type 0} → (ps : List ℕ) (qs : List (List Y)) → length (handed ps qs) ≡ length ps
length-handed [] qs = refl
length-handed (p ∷ ps) qs = ap suc (length-handed ps (set qs p (drop 1 (get_or qs p []))))

module _ {T Y : Type 0} where
  -- one more reply is handed out
  pub hand-one : (lanes : List (Lane T Y)) (p : ℕ) (rest : List ℕ) (old lane : Lane T Y) (o : Option Y) (replies : List (Option Y)) → p < length lanes → (get_or lanes p old).replies.items ≡ lane.replies.items ++ option_to_list o
      → (0 < length (get_or lanes p old).replies.items → IsSome o) → (replies ++ o ∷ []) ++ handed (reverse rest) (queues (set lanes p lane)) ≡ replies ++ handed (reverse (rest ++ p ∷ [])) (queues lanes)
  hand-one lanes p rest old lane o replies within popped some =
      let queue = λ (lane : Lane T Y). reverse lane.replies.items in
      let both = pop-first (get_or lanes p old).replies.items lane.replies.items o popped some in
      let here : get_or (queues lanes) p [] ≡ reverse (get_or lanes p old).replies.items = get_or-map queue lanes p old [] within in
      let first : slice_get (get_or (queues lanes) p []) 0 ≡ o = ap (λ l. slice_get l 0) here ∙ both.0 in
      let left : set (queues lanes) p (drop 1 (get_or (queues lanes) p [])) ≡ queues (set lanes p lane) = ap (λ l. set (queues lanes) p (drop 1 l)) here ∙ ap (set (queues lanes) p) both.1 ∙ sym (map-set queue lanes p lane) in
      append_assoc replies (o ∷ []) (handed (reverse rest) (queues (set lanes p lane)))
      ∙ ap (λ l. replies ++ l) (ap₂ (λ o qs. o ∷ handed (reverse rest) qs) (sym first) (sym left) ∙ ap (λ l. handed l (queues lanes)) (sym (reverse-append rest (p ∷ []))))

  -- each step with the next reply, as long as there is one
  pub pair_up : List T → List Y → List (T × Option Y)
  pair_up [] ys = []
  pair_up (t ∷ ts) ys = (t, slice_get ys 0) ∷ pair_up ts (drop 1 ys)

  pair-none : (left : List T) → pair_up left [] ≡ map untaken left
  unfolding pair_up
  pair-none [] = refl
  pair-none (t ∷ left) = ap (λ l. untaken t ∷ l) (pair-none left)

  pub pair-front : (front : List (T × Y)) (left : List T) → pair_up (map (λ d. d.0) front ++ left) (map (λ d. d.1) front) ≡ map replied front ++ map untaken left
  unfolding pair_up
  pair-front [] left = pair-none left
  pair-front (d ∷ front) left = ap (λ l. replied d ∷ l) (pair-front front left)

  -- what was handed out to the places of the steps is, part by part, what the part's queue had
  pub part-handed : (goes : T → ℕ) (s : ℕ) (steps : List T) (qs : List (List Y)) → All (λ t. goes t < length qs) steps → of_part goes s (zip steps (handed (map goes steps) qs)) ≡ pair_up (steps_of goes s steps) (get_or qs s [])
  unfolding pair_up
  part-handed goes s [] qs within = refl
  part-handed goes s (t ∷ ts) qs within =
      let q = get_or qs (goes t) [] in
      let rs = set qs (goes t) (drop 1 q) in
      let inside : goes t < length qs = All-head (λ t. goes t < length qs) t ts within in
      let others : of_part goes s (zip ts (handed (map goes ts) rs)) ≡ pair_up (steps_of goes s ts) (get_or rs s []) = part-handed goes s ts rs (subst (λ n. All (λ t. goes t < n) ts) (sym (length-set qs (goes t) (drop 1 q))) (All-tail (λ t. goes t < length qs) t ts within)) in
      elim (cases_eq (goes t) s) as (λ _. of_part goes s ((t, slice_get q 0) ∷ zip ts (handed (map goes ts) rs)) ≡ pair_up (steps_of goes s (t ∷ ts)) (get_or qs s [])) [
        | inl here ↦ rw (eq-eqb (goes t) s here) (ap₂ (λ (o : Option Y) l. (t, o) ∷ l) (ap (λ i. slice_get (get_or qs i []) 0) here)
            (others ∙ ap (pair_up (steps_of goes s ts)) (ap (λ i. get_or rs i []) (sym here) ∙ get_or-set_same qs (goes t) (drop 1 q) [] inside ∙ ap (λ i. drop 1 (get_or qs i [])) here)))
        | inr other ↦ rw (ne_eqb (goes t) s other) (others ∙ ap (pair_up (steps_of goes s ts)) (get_or-set_other qs (goes t) s (drop 1 q) [] (λ e. other (sym e))))
      ]
