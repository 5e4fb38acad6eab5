-- A shard whose pairs were moved to other slots.
use Rattle.std.proofs.Common.{◌≡◌, ◌⊎◌, ℕ, ◌+◌, ◌<◌, ◌≤◌, length, refl, sym, ap, ◌∙◌, subst, arith, inl, inr, Ok, Err}
use Rattle.std.specs.Prelude.{Result, OnOk, OnErr}
use Rattle.dash_shard.specs.Contents.{EachOnce}
use Rattle.dash_shard.specs.Shard.{ShardState, taken, pairs, IsShard}
use Rattle.dash_shard.specs.inner.Keys.{keys_of, IsLawful}
use Rattle.dash_shard.specs.Each.{Shrinks, close_room}
use Rattle.dash_shard.specs.Memory.{NoMemory}
use Rattle.dash_shard.specs.Held.{Reserves}
use Rattle.dash_shard.specs.declared.shard.table.Table.{Table}
use Rattle.dash_shard.specs.inner.Table.{pairs_in, limit, IsMoved, slots_in}
use Rattle.dash_shard.proofs.Shards.{state, Inside}
use Rattle.dash_shard.specs.Hashing.{KeyHash}

module _ {K V S : Type 0} (h : KeyHash K S)
    (law : IsLawful h) (s : S) (number amount : ℕ)
    (t new : Table K V) (inside : Inside h law s number amount t) (moved : IsMoved t new) where
  abbrev of : Table K V → ShardState K V S
  of u = state h law s number amount u

  pub each : EachOnce h.eq (pairs (of t)) (pairs (of new))
  each = moved.once (keys_of h (of t)) law.laws inside.shard.contents.distinct

  moved-shard : IsShard h (of new)
  moved-shard = record {
    contents = record { distinct = each.distinct; routed = λ k away. each.same k ∙ inside.shard.contents.routed k away };
    number = inside.shard.number;
    amount = inside.shard.amount;
  }

  pub moved-inside : Inside h law s number amount new
  moved-inside = record {
    shard = moved-shard;
    table = moved.table;
    hashed = λ i p e. let from = moved.carried i p e in sym from.2 ∙ inside.hashed from.0 p from.1;
    counted = moved.table.counted;
  }

  pub moved-len : length (pairs (of new)) ≡ length (pairs (of t))
  moved-len = sym moved.table.counted ∙ moved.len ∙ inside.counted

  pub shrinks : slots_in new ≤ slots_in t → (limit (slots_in new) ≤ close_room t.len) ⊎ ((new ≡ t) × NoMemory (close_room t.len)) → (t.len ≡ 0 → slots_in new ≡ 0) → (z : ShardState K V S) → of t ≡ z
      → Shrinks h.eq z (of new)
  shrinks room close none z view = subst (λ x. Shrinks h.eq x (of new)) view (record {
    pairs = each;
    len = moved-len;
    room = omega (arith, room);
    holds = omega (arith, moved-len, moved.table.fits, moved.len, inside.counted);
    close = subst (λ n. (limit (slots_in new) ≤ close_room n) ⊎ ((of new ≡ of t) × NoMemory (close_room n))) inside.counted (elim close [
      | inl little ↦ inl little
      | inr refused ↦ inr (ap of refused.0, refused.1)
    ]);
    none = λ e. let gone : slots_in new ≡ 0 = none (inside.counted ∙ e) in omega (arith, gone);
    stays = record { number = refl; amount = refl; hasher = refl };
  })

-- a shard for which room was made, or not
module _ {K V S : Type 0} (h : KeyHash K S)
    (law : IsLawful h) (s : S) (number amount : ℕ)
    (t new : Table K V) (inside : Inside h law s number amount t) where
  pub reserved : (z : ShardState K V S) → state h law s number amount t ≡ z → {R E : Type 0} → (additional : ℕ) (r : Result R E) → IsMoved t new → OnOk r (new.len + additional ≤ limit (slots_in new))
      → (t.len + additional ≤ limit (slots_in t) → new ≡ t) → OnErr r ((new ≡ t) × (limit (slots_in t) < t.len + additional)) → Reserves h.eq additional z (state h law s number amount new) r
  reserved z view additional r moved ok kept err = subst (λ x. Reserves h.eq additional x (state h law s number amount new) r) view (record {
    room = on-ok r ok;
    pairs = each h law s number amount t new inside moved;
    len = moved-len h law s number amount t new inside moved;
    kept = λ room. ap (state h law s number amount) (kept (omega (arith, room, inside.counted)));
    stays = record { number = refl; amount = refl; hasher = refl };
    refused = on-err r err;
    full = on-full r err;
  })
    where
      on-ok : {R E : Type 0} (q : Result R E) → OnOk q (new.len + additional ≤ limit (slots_in new)) → OnOk q (length (taken (pairs_in new)) + additional ≤ limit (slots_in new))
      on-ok (Ok x) fits = omega (arith, fits, moved.table.counted)
      on-ok (Err e) fits = tt

      on-full : {R E : Type 0} (q : Result R E) → OnErr q ((new ≡ t) × (limit (slots_in t) < t.len + additional)) → OnErr q (limit (slots_in t) < length (taken (pairs_in t)) + additional)
      on-full (Ok x) full = tt
      on-full (Err e) full = let lt = full.1 in omega (arith, lt, inside.counted)

      on-err : {R E : Type 0} (q : Result R E) → OnErr q ((new ≡ t) × (limit (slots_in t) < t.len + additional)) → OnErr q (state h law s number amount new ≡ state h law s number amount t)
      on-err (Ok x) same = tt
      on-err (Err e) same = ap (state h law s number amount) same.0
