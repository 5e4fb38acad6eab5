-- The shards of a map, in their two homes: behind locks, and in the row of one owner.
use Rattle.std.proofs.Common.{◌≡◌, ℕ, zero, suc, ◌+◌, ◌<◌, List, [], ◌∷◌, length, map, Some, slice_get, get_or, refl, ap, ap₂, sym, subst, ◌∙◌}
use Rattle.std.proofs.lemmas.Option.{slice_get-get_or, none-some, same_Some}
use Rattle.crossbeam_utils.specs.declared.cache_padded.CachePadded.{CachePadded}
use Rattle.crossbeam_utils.specs.Padded.{padded_value}
use Rattle.dash_shard.specs.Hashing.{KeyHash, IsAmount, HashAlike}
use Rattle.dash_shard.specs.Held.{FitsTag}
use Rattle.dash_shard.specs.Lock.{FoundBehind, LeftBehind, EndedWith}
use Rattle.dash_shard.specs.Made.{Made}
use Rattle.dash_shard.specs.inner.Rows.{Moved}
use Rattle.dash_shard.specs.Shard.{ShardState, IsTagged}
use Rattle.dash_shard.specs.declared.shard.tag.ShardTag.{ShardTag}
use Rattle.dash_shard.proofs.Rows.{moved-length, moved-from, moved-to}
use Rattle.dash_map.specs.Alone.{AloneState, IsAlone}
use Rattle.dash_map.specs.Map.{MapShape, MapState, shape, made_for}
use Rattle.dash_map.specs.Locks.{IsAt, IsMap, made_of}

module _ {K V S : Type 0} (h : KeyHash K S) where
  -- what fits the lock of a shard is that shard
  pub tagged-behind : (m : MapShape S) (i : ℕ) (lock : CachePadded (Made (ShardTag S) (ShardState K V S))) (s : ShardState K V S) → IsAt m i lock → FitsTag h (padded_value lock).tag s → IsTagged h m.hasher m.amount i s
  tagged-behind m i lock s at p = record {
    number = p.number ∙ at.number;
    amount = p.amount ∙ at.amount;
    hashes = subst (λ x. HashAlike h x s.hasher) at.hasher p.hashes;
    shard = p.shard;
  }

  -- what is held through the lock that an index lends is the shard of that number, whose state is written z
  pub tagged-held : (m : MapShape S) (z : MapState K V S) → m ≡ shape z → (locks : List (CachePadded (Made (ShardTag S) (ShardState K V S)))) → IsMap m locks → (i : ℕ) → i < length locks → (lock : CachePadded (Made (ShardTag S) (ShardState K V S))) → lock ≡ get_or locks i lock
      → (tag : ShardTag S) → tag ≡ (padded_value lock).tag → (s : ShardState K V S) → FitsTag h tag s → IsTagged h z.hasher z.amount i s
  tagged-held m z view locks is i within lock read tag same s fits =
      let here : slice_get locks i ≡ Some lock = slice_get-get_or locks i lock within ∙ ap Some (sym read) in
      subst (λ x. IsTagged h x.hasher x.amount i s) view (tagged-behind m i lock s (is.tagged i lock here) (subst (λ t. FitsTag h t s) same fits))

  -- the shard fits the lock, which ended with it
  abbrev pub Unlocks : ℕ → CachePadded (Made (ShardTag S) (ShardState K V S)) → ShardState K V S → Type 0
  Unlocks i lock s = FitsTag h (padded_value lock).tag s × (FoundBehind s × EndedWith (made_of lock) s)

  pub alone-of_map : (base : S) (locks : List (CachePadded (Made (ShardTag S) (ShardState K V S)))) (row : List (ShardState K V S)) → IsMap (record { hasher = base; amount = length locks }) locks
      → Moved Unlocks 0 locks row → IsAlone h (record { hasher = base; row = row })
  alone-of_map base locks row m moved =
      let long : length row ≡ length locks = moved-length Unlocks 0 locks row moved in
      record {
        amount = subst IsAmount (sym long) m.amount;
        tagged = λ i s e.
            let from = moved-from Unlocks locks row moved i s e in
            subst (λ n. IsTagged h base n i s) (sym long) (tagged-behind (record { hasher = base; amount = length locks }) i from.0 s (m.tagged i from.0 from.1) from.2.0);
      }

  -- the lock was made for the shard, and has it
  abbrev pub Locks : MapShape S → ℕ → ShardState K V S → CachePadded (Made (ShardTag S) (ShardState K V S)) → Type 0
  Locks m i s lock = IsAt m i lock × ((made_of lock ≡ s) × LeftBehind s)

  pub map-of_alone : (base : S) (n : ℕ) (row : List (ShardState K V S)) (locks : List (CachePadded (Made (ShardTag S) (ShardState K V S)))) → n ≡ length row → IsAlone h (record { hasher = base; row = row })
      → Moved (Locks (record { hasher = base; amount = n })) 0 row locks → IsMap (record { hasher = base; amount = length locks }) locks
  map-of_alone base n row locks count a moved =
      let R : ℕ → ShardState K V S → CachePadded (Made (ShardTag S) (ShardState K V S)) → Type 0 = Locks (record { hasher = base; amount = n }) in
      let long : length locks ≡ length row = moved-length R 0 row locks moved in
      record {
        amount = subst IsAmount (sym long) a.amount;
        tagged = λ i lock e. subst (λ k. IsAt (record { hasher = base; amount = k }) i lock) (count ∙ sym long) (moved-from R row locks moved i lock e).2.0;
      }

  -- each shard of the row is behind its lock
  pub left-of_alone : (m : MapShape S) (a z : AloneState K V S) → a ≡ z → (locks : List (CachePadded (Made (ShardTag S) (ShardState K V S)))) → Moved (Locks m) 0 a.row locks → (i : ℕ) (s : ShardState K V S) → slice_get z.row i ≡ Some s → LeftBehind s
  left-of_alone m a z view locks moved i s e = (moved-to (Locks m) a.row locks moved i s (subst (λ (x : AloneState K V S). slice_get x.row i ≡ Some s) (sym view) e)).1.1.1

  -- each shard of the row was behind its lock
  pub found-of_map : (locks : List (CachePadded (Made (ShardTag S) (ShardState K V S)))) (row : List (ShardState K V S)) → Moved Unlocks 0 locks row → (i : ℕ) (s : ShardState K V S) → slice_get row i ≡ Some s → FoundBehind s
  found-of_map locks row moved i s e = (moved-from Unlocks locks row moved i s e).2.1.0

  -- the locks were made for the row
  pub made-of_alone : (m : MapShape S) (i : ℕ) (row : List (ShardState K V S)) (locks : List (CachePadded (Made (ShardTag S) (ShardState K V S)))) → Moved (Locks m) i row locks → map made_of locks ≡ row
  made-of_alone m i [] [] moved = refl
  made-of_alone m i [] (y ∷ ys) moved = absurd moved
  made-of_alone m i (x ∷ xs) [] moved = absurd moved
  made-of_alone m i (x ∷ xs) (y ∷ ys) moved = ap₂ (λ z zs. z ∷ zs) moved.0.1.0 (made-of_alone m (i + 1) xs ys moved.1)

  -- each lock ended with the shard in its place
  pub ended-of_map : (i : ℕ) (locks : List (CachePadded (Made (ShardTag S) (ShardState K V S)))) (row : List (ShardState K V S)) → Moved Unlocks i locks row
      → (j : ℕ) (x s : ShardState K V S) → slice_get (map made_of locks) j ≡ Some x → slice_get row j ≡ Some s → EndedWith x s
  ended-of_map i [] row moved j x s e f = absurd (none-some x e)
  ended-of_map i (l ∷ ls) [] moved j x s e f = absurd moved
  ended-of_map i (l ∷ ls) (y ∷ ys) moved zero x s e f = subst (λ z. EndedWith z s) (same_Some (made_of l) x e) (subst (λ z. EndedWith (made_of l) z) (same_Some y s f) moved.0.1.1)
  ended-of_map i (l ∷ ls) (y ∷ ys) moved (suc j) x s e f = ended-of_map (i + 1) ls ys moved.1 j x s e f
