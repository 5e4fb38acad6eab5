-- What is a part: a field, what an option has, and the part of a part.
use Rattle.std.specs.Prelude.{◌≡◌, Option, Some, None, IsSome, option_and_then, refl}
use Rattle.std.specs.Option.{option_map, option_map_or}
use Rattle.std.proofs.Common.{ap, ◌∙◌, subst, sym}
use Rattle.std.proofs.lemmas.Bool.{false≢true}
use Rattle.dash_ref.specs.Part.{IsPart}

-- what is read and written as a field is a part; at a field of a struct each of the three is `refl`
pub field_is_part : {V T : Type 0} {read : V → T} {write : V → T → V} → ((v : V) (t : T) → read (write v t) ≡ t) → ((v : V) → write v (read v) ≡ v)
    → ((v : V) (t u : T) → write (write v t) u ≡ write v u) → IsPart (λ v. Some (read v)) write
field_is_part {read = read} {write = write} new same over = record {
  put = λ v t h. ap Some (new v t);
  own = λ v t e. ap (λ o. write v (option_map_or (λ x. x) o (read v))) (sym e) ∙ same v;
  last = λ v t u h. over v t u;
}

-- what an option has is a part
pub payload_is_part : {T : Type 0} → IsPart {V = Option T} {T = T} (λ v. v) (λ v t. option_map (λ _. t) v)
payload_is_part {T} = record { put = put; own = own; last = last }
  where
    put : (v : Option T) (t : T) → IsSome v → option_map (λ _. t) v ≡ Some t
    put None t h = absurd (false≢true h)
    put (Some x) t h = refl

    own : (v : Option T) (t : T) → v ≡ Some t → option_map (λ _. t) v ≡ v
    own None t e = refl
    own (Some x) t e = sym e

    last : (v : Option T) (t u : T) → IsSome v → option_map (λ _. u) (option_map (λ _. t) v) ≡ option_map (λ _. u) v
    last None t u h = refl
    last (Some x) t u h = refl

module _ {V M T : Type 0} (p : V → Option M) (w : V → M → V) (q : M → Option T) (x : M → T → M) where
  -- the part q of a part p, and the value with a new one
  abbrev pub inner_part : V → Option T
  inner_part v = option_and_then q (p v)

  abbrev pub inner_with : V → T → V
  inner_with v t = option_map_or (λ m. w v (x m t)) (p v) v

  pub inner_is_part : IsPart p w → IsPart q x → IsPart inner_part inner_with
  inner_is_part a b = record { put = λ v t s. put v t (p v) refl s; own = λ v t s. own v t (p v) refl s; last = λ v t u s. last v t u (p v) refl s }
    where
      there : (v : V) (m : M) (t : T) → p v ≡ Some m → p (w v (x m t)) ≡ Some (x m t)
      there v m t e = a.put v (x m t) (subst IsSome (sym e) refl)

      put : (v : V) (t : T) (o : Option M) → p v ≡ o → IsSome (option_and_then q o) → option_and_then q (p (option_map_or (λ m. w v (x m t)) o v)) ≡ Some t
      put v t None e s = absurd (false≢true s)
      put v t (Some m) e s = ap (option_and_then q) (there v m t e) ∙ b.put m t s

      own : (v : V) (t : T) (o : Option M) → p v ≡ o → option_and_then q o ≡ Some t → option_map_or (λ m. w v (x m t)) o v ≡ v
      own v t None e s = refl
      own v t (Some m) e s = ap (w v) (b.own m t s) ∙ a.own v m e

      last : (v : V) (t u : T) (o : Option M) → p v ≡ o → IsSome (option_and_then q o) → inner_with (option_map_or (λ m. w v (x m t)) o v) u ≡ option_map_or (λ m. w v (x m u)) o v
      last v t u None e s = absurd (false≢true s)
      last v t u (Some m) e s =
          ap (λ o. option_map_or (λ n. w (w v (x m t)) (x n u)) o (w v (x m t))) (there v m t e) ∙ (a.last v (x m t) (x (x m t) u) (subst IsSome (sym e) refl) ∙ ap (w v) (b.last m t u s))
