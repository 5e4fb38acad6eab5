-- A map that was copied, shard by shard.
use Rattle.std.proofs.Common.{◌≡◌, ℕ, ◌+◌, Bool, List, [], ◌∷◌, ◌++◌, Some, slice_get, refl, sym, ap, subst, ◌∙◌, inl, inr, arith, get_or}
use Rattle.std.proofs.lemmas.List.{length_push}
use Rattle.std.proofs.lemmas.Option.{none-some, slice_get_within, slice_get-get_or}
use Rattle.dash_shard.specs.Hashing.{KeyHash, HashAlike, IsAmount}
use Rattle.dash_shard.specs.Shard.{ShardState}
use Rattle.dash_shard.specs.Lock.{WasRead}
use Rattle.dash_map.specs.Alone.{AloneState, IsAlone}
use Rattle.dash_map.specs.Copies.{CopiesAlone}
use Rattle.dash_rows.specs.inner.Copies.{IsCopied, AreCopied}
use Rattle.dash_map.specs.Behind.{SawShards}
use Rattle.dash_map.specs.Map.{MapState}
use Rattle.dash_map.proofs.Seeing.{IsWhole, SeenSo, append-cases, all-seen}

module _ {K V S : Type 0} (eq k : K → K → Bool) (v : V → V → Bool) (C : S → S → Type 0) (h : KeyHash K S) where
  pub none-copied : AreCopied eq k v C h [] []
  none-copied = record { len = refl; each = λ i s t e f. absurd (none-some s e) }

  pub more-copied : (row copies : List (ShardState K V S)) → AreCopied eq k v C h row copies → (s t : ShardState K V S) → IsCopied eq k v C h s t → AreCopied eq k v C h (row ++ s ∷ []) (copies ++ t ∷ [])
  more-copied row copies are s t is = record {
    len = length_push copies t ∙ ap (λ n. n + 1) are.len ∙ sym (length_push row s);
    each = λ i x y e f. elim (append-cases row s i x e) as (λ _. IsCopied eq k v C h x y) [
      | inl old ↦ elim (append-cases copies t i y f) as (λ _. IsCopied eq k v C h x y) [
        | inl also ↦ are.each i x y old also
        | inr new ↦ absurd (omega (arith, slice_get_within row i x old, new.0, are.len))
      ]
      | inr new ↦ elim (append-cases copies t i y f) as (λ _. IsCopied eq k v C h x y) [
        | inl old ↦ absurd (omega (arith, slice_get_within copies i y old, new.0, are.len))
        | inr also ↦ subst (λ z. IsCopied eq k v C h z y) new.1 (subst (λ z. IsCopied eq k v C h s z) also.1 is)
      ]
    ];
  }

  module _ (a : AloneState K V S) (copies : List (ShardState K V S)) (are : AreCopied eq k v C h a.row copies) (hasher : S) (clone : C a.hasher hasher) where
    pub all-copied : CopiesAlone eq k v C a (record { hasher = hasher; row = copies })
    all-copied = record {
      shards = λ i s t e f. (are.each i s t e f).copies;
      amount = are.len;
      hasher = clone;
    }

    pub copied-lawful : IsAlone h a → HashAlike h a.hasher hasher → IsAlone h (record { hasher = hasher; row = copies })
    copied-lawful is alike = record {
      amount = subst IsAmount (sym are.len) is.amount;
      tagged = λ i t f.
          let s : ShardState K V S = get_or a.row i t in
          let e : slice_get a.row i ≡ Some s = slice_get-get_or a.row i t (omega (arith, slice_get_within copies i t f, are.len)) in
          let from = is.tagged i s e in
          let made = are.each i s t e f in
          record {
            number = made.copies.number ∙ from.number;
            amount = made.copies.amount ∙ from.amount ∙ sym are.len;
            hashes = λ k. made.hashes k ∙ from.hashes k ∙ sym (alike k);
            shard = made.lawful;
          };
    }

  -- a map behind its locks that was copied, each shard when it was held
  pub copied-map : (m : MapState K V S) (n : ℕ) (copies : List (ShardState K V S)) → SeenSo h m n (λ row. AreCopied eq k v C h row copies) → IsWhole m n
      → (base : S) → base ≡ m.hasher → (hasher : S) → C base hasher → ((s t : S) → C s t → HashAlike h s t) → (made : List (ShardState K V S)) → made ≡ copies
      → SawShards h m (λ a. CopiesAlone eq k v C a (record { hasher = hasher; row = made })) × IsAlone h (record { hasher = hasher; row = made })
  copied-map m n copies so all base is hasher clone alike made same =
      let a : AloneState K V S = record { hasher = m.hasher; row = so.0 } in
      let found = all-seen h m WasRead n so.0 so.1 all in
      let cloned : C m.hasher hasher = subst (λ z. C z hasher) is clone in
      let made-of = subst (λ l. AreCopied eq k v C h so.0 l) (sym same) so.2 in (
        (a, found, all-copied a made made-of hasher cloned),
        copied-lawful a made made-of hasher cloned found.lawful (alike _ _ cloned),
      )
