-- What filters keep of lists, and when two lists in an order agree.
use Rattle.std.proofs.Common.{◌≡◌, ℕ, zero, suc, ◌<◌, ◌≤◌, Bool, true, false, cond, List, [], ◌∷◌, filter, length, Option, Some, None, slice_get, slice_index_or, inl, inr, refl, sym, ap, subst, ◌∙◌, arith}
use Rattle.std.specs.List.{AllZip, filter_map, cons_option}
use Rattle.std.proofs.lemmas.Option.{slice_get-get_or, slice_get_past}
use Rattle.std.specs.Option.{MatchOption, IfSome, option_map}
use denote.Ref.{Bor}
use Rattle.dash_history.proofs.Ordered.{Has, has-get, InOrder}

module _ {X : Type 0} where
  -- what a filter keeps
  pub has-kept : (p : X → Bool) (xs : List X) (x : X) → Has (filter p xs) x → Has xs x × (p x ≡ true)
  has-kept p [] x h = absurd h
  has-kept p (y ∷ xs) x h = go (has-kept p xs x) (p y) refl h
    where
      go : (Has (filter p xs) x → Has xs x × (p x ≡ true)) → (b : Bool) → p y ≡ b → Has (cond b (y ∷ filter p xs) (filter p xs)) x → Has (y ∷ xs) x × (p x ≡ true)
      go rest true e (inl same) = (inl same, ap p (sym same) ∙ e)
      go rest true e (inr h) = let r = rest h in (inr r.0, r.1)
      go rest false e h = let r = rest h in (inr r.0, r.1)

  pub kept-has : (p : X → Bool) (xs : List X) (x : X) → Has xs x → p x ≡ true → Has (filter p xs) x
  kept-has p [] x h e = h
  kept-has p (y ∷ xs) x (inl same) e = rw (ap p same ∙ e) (inl same)
  kept-has p (y ∷ xs) x (inr h) e = elim (p y) as (λ b. Has (cond b (y ∷ filter p xs) (filter p xs)) x) [ true ↦ inr (kept-has p xs x h e) | false ↦ kept-has p xs x h e ]

  pub get-in_order : (R : X → X → Type 0) (xs : List X) → ((i j : ℕ) (x y : X) → i < j → slice_get xs i ≡ Some x → slice_get xs j ≡ Some y → R x y) → InOrder R xs
  get-in_order R [] f = tt
  get-in_order R (x ∷ xs) f = (
    λ y h. let r = has-get xs y h in f zero (suc r.0) x y (omega arith) refl r.1,
    get-in_order R xs (λ i j a b lt. f (suc i) (suc j) a b (omega (arith, lt))),
  )

  pub in_order-kept : (R : X → X → Type 0) (p : X → Bool) (xs : List X) → InOrder R xs → InOrder R (filter p xs)
  in_order-kept R p [] o = o
  in_order-kept R p (x ∷ xs) o = elim (p x) as (λ b. InOrder R (cond b (x ∷ filter p xs) (filter p xs)))
      [ true ↦ (λ y h. o.0 y (has-kept p xs y h).0, in_order-kept R p xs o.1) | false ↦ in_order-kept R p xs o.1 ]

  -- Two lists in an order without circles agree item by item, where each element of one has a like one in the other.
  module _ (R : X → X → Type 0) (never : (x y : X) → R x y → R y x → ⊥) (L : X → X → Type 0) (back : (a b x y : X) → L a x → L b y → R a b → R x y) (forth : (a b x y : X) → L a x → L b y → R x y → R a b) where
    pub agree : (xs ys : List X) → InOrder R xs → InOrder R ys → ((x : X) → Has xs x → (y : X) × Has ys y × L x y) → ((y : X) → Has ys y → (x : X) × Has xs x × L x y) → AllZip L xs ys
    agree [] [] ox oy f g = tt
    agree [] (y ∷ ys) ox oy f g = absurd (g y (inl refl)).1
    agree (x ∷ xs) [] ox oy f g = absurd (f x (inl refl)).1
    agree (x ∷ xs) (y ∷ ys) ox oy f g = (heads, agree xs ys ox.1 oy.1 left right)
      where
        heads : L x y
        heads = go (f x (inl refl)) (g y (inl refl))
          where
            go : ((b : X) × Has (y ∷ ys) b × L x b) → ((a : X) × Has (x ∷ xs) a × L a y) → L x y
            go (b, inl e, l) q = subst (λ z. L x z) (sym e) l
            go (b, inr h, l) (a, inl e, m) = subst (λ z. L z y) (sym e) m
            go (b, inr h, l) (a, inr k, m) = absurd (never x a (ox.0 a k) (forth a x y b m l (oy.0 b h)))

        left : (z : X) → Has xs z → (w : X) × Has ys w × L z w
        left z h = go (f z (inr h))
          where
            go : ((w : X) × Has (y ∷ ys) w × L z w) → (w : X) × Has ys w × L z w
            go (w, inl e, l) = let r = back x z y y heads (subst (λ v. L z v) (sym e) l) (ox.0 z h) in absurd (never y y r r)
            go (w, inr k, l) = (w, k, l)

        right : (w : X) → Has ys w → (z : X) × Has xs z × L z w
        right w h = go (g w (inr h))
          where
            go : ((z : X) × Has (x ∷ xs) z × L z w) → (z : X) × Has xs z × L z w
            go (z, inl e, l) = let r = forth x x y w heads (subst (λ v. L v w) (sym e) l) (oy.0 w h) in absurd (never x x r r)
            go (z, inr k, l) = (z, k, l)

-- what a filter_map keeps
module _ {X Y : Type 0} (f : X → Option Y) where
  pub has-mapped : (xs : List X) (y : Y) → Has (filter_map f xs) y → (x : X) × Has xs x × (f x ≡ Some y)
  has-mapped [] y h = absurd h
  has-mapped (x ∷ xs) y h = go (has-mapped xs y) (f x) refl h
    where
      go : (Has (filter_map f xs) y → (z : X) × Has xs z × (f z ≡ Some y)) → (o : Option Y) → f x ≡ o → Has (cons_option o (filter_map f xs)) y → (z : X) × Has (x ∷ xs) z × (f z ≡ Some y)
      go rest None e h = let r = rest h in (r.0, inr r.1, r.2)
      go rest (Some v) e (inl same) = (x, inl refl, e ∙ ap Some same)
      go rest (Some v) e (inr h) = let r = rest h in (r.0, inr r.1, r.2)

  pub mapped-has : (xs : List X) (x : X) (y : Y) → Has xs x → f x ≡ Some y → Has (filter_map f xs) y
  mapped-has [] x y h e = absurd h
  mapped-has (z ∷ xs) x y (inl same) e = rw (ap f same ∙ e) (inl refl)
  mapped-has (z ∷ xs) x y (inr h) e = elim (f z) as (λ o. Has (cons_option o (filter_map f xs)) y) [ None ↦ mapped-has xs x y h e | Some v ↦ inr (mapped-has xs x y h e) ]

  pub in_order-mapped : (R : X → X → Type 0) (S : Y → Y → Type 0) (xs : List X) → ((x z : X) (y w : Y) → Has xs x → Has xs z → f x ≡ Some y → f z ≡ Some w → R x z → S y w) → InOrder R xs → InOrder S (filter_map f xs)
  in_order-mapped R S [] g o = tt
  in_order-mapped R S (x ∷ xs) g o = go (f x) refl (in_order-mapped R S xs (λ a b y w ha hb. g a b y w (inr ha) (inr hb)) o.1)
    where
      go : (q : Option Y) → f x ≡ q → InOrder S (filter_map f xs) → InOrder S (cons_option q (filter_map f xs))
      go None e rest = rest
      go (Some v) e rest = (λ y h. let r = has-mapped xs y h in g x r.0 v y (inl refl) (inr r.1) e r.2 (o.0 r.0 r.1), rest)

-- what `get` of a slice returns
pub got : {X : Type 0} (xs : List X) (i : ℕ) (P : Bor X → Type 0) (r : Option (Bor X)) → IfSome r (λ x. x.now ≡ slice_index_or xs i x.now) → MatchOption r (length xs ≤ i) (λ x. (i < length xs) × P x) → option_map (λ x. x.now) r ≡ slice_get xs i
got xs i P None is m = sym (slice_get_past xs i m)
got xs i P (Some x) is m = ap Some is ∙ sym (slice_get-get_or xs i x.now m.0)
