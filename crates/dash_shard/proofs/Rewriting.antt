-- A table with another pair in a taken slot, and the shard that has it.
use Rattle.std.proofs.Common.{◌≡◌, ℕ, ◌<◌, Bool, true, List, length, set, Option, Some, None, is_some, IsTrue, refl, sym, ap, subst, ◌∙◌, inl, inr, get_or-set_same}
use Rattle.std.specs.Prelude.{if◌then◌else◌}
use Rattle.std.specs.Option.{option_map, IsSomeAnd}
use Rattle.std.proofs.lemmas.Bool.{cases_Bool, cases_eq}
use Rattle.std.proofs.lemmas.Option.{none-some, same_Some}
use Rattle.std.proofs.Math.ListN.{length-set}
use Rattle.dash_shard.specs.declared.shard.table.Table.{Table}
use Rattle.dash_shard.specs.Hashing.{KeyHash}
use Rattle.dash_shard.specs.inner.Keys.{IsLawful, keys_of}
use Rattle.dash_shard.specs.Contents.{Keys, at, IsOnShard}
use Rattle.dash_shard.specs.Shard.{ShardState, slot, taken, pairs, Routes, IsShard}
use Rattle.dash_shard.specs.inner.Table.{Holds, HoldsNamed, IsTable, IsRewritten, IsHashed, pairs_in, hashes_in, with_value_at}
use Rattle.dash_shard.proofs.Equals.{at-equal}
use Rattle.dash_shard.proofs.Written.{spot-within, table-rewritten}
use Rattle.dash_shard.proofs.Slots.{NoOther, Equal, at-written, on_shard-written, length-taken-replace, stays-written}
use Rattle.dash_shard.proofs.Shards.{state, Inside, hashed-replace, routes-equal, equal-found, others-found, at-found}

-- another pair in a taken slot
pub rewritten : {K V : Type 0} (t new : Table K V) (i : ℕ) (p q : K × V) → IsTable t → slot (pairs_in t) i ≡ Some p → pairs_in new ≡ set (pairs_in t) i (Some q) → hashes_in new ≡ hashes_in t
    → new.tags.items ≡ t.tags.items → new.counts.items ≡ t.counts.items → new.len ≡ t.len → IsRewritten i q t new
rewritten t new i p q table there pairs hashes tags counts len = record {
  pairs = pairs;
  hashes = hashes;
  len = len;
  slots = ap length pairs ∙ length-set (pairs_in t) i (Some q);
  table = table-rewritten t new i p q table there pairs hashes tags counts len;
}

-- what a slot has, if its key is equal
abbrev pub holds-pair : {K V : Type 0} (names : K → Bool) (slots : List (Option (K × V))) (i : ℕ) (p : K × V) → slot slots i ≡ Some p → IsSomeAnd (slot slots i) (λ q. IsTrue (names q.0)) → HoldsNamed names slots i
holds-pair names slots i p there has = record {
  within = spot-within slots i (ap is_some there);
  pair = p;
  is = there;
  equal = subst (λ o. IsSomeAnd o (λ q. IsTrue (names q.0))) there has;
}

-- a value that was lent, and written
module _ {K V : Type 0} (t : Table K V) (i : ℕ) (p : K × V) (v : V) (table : IsTable t) (there : slot (pairs_in t) i ≡ Some p) where
  pub valued-rewritten : IsRewritten i (p.0, v) t (with_value_at t i v)
  valued-rewritten = rewritten t _ i p (p.0, v) table there (ap (λ o. set (pairs_in t) i (option_map (λ q. (q.0, v)) o)) there) refl refl refl refl

  pub valued-slot : slot (pairs_in (with_value_at t i v)) i ≡ Some (p.0, v)
  valued-slot = ap (λ xs. slot xs i) valued-rewritten.pairs ∙ get_or-set_same (pairs_in t) i (Some (p.0, v)) None (spot-within (pairs_in t) i (ap is_some there))

module _ {K V S : Type 0} (h : KeyHash K S)
    (law : IsLawful h) (s : S) (number amount : ℕ)
    (t new : Table K V) (inside : Inside h law s number amount t) (k : K) (i : ℕ) (found : Holds h.eq (pairs_in t) k i) (q : K × V) (equal : h.eq q.0 k ≡ true) (r : IsRewritten i q t new) where
  abbrev before : ShardState K V S
  before = state h law s number amount t

  abbrev after_it : ShardState K V S
  after_it = state h law s number amount new

  abbrev w : Keys K
  w = keys_of h before

  abbrev hash : K → ℕ
  hash j = h.hash s j

  abbrev spots : List (Option (K × V))
  spots = pairs_in t

  within : i < length spots
  within = found.within

  pub found-at : at w.eq (pairs before) k ≡ Some found.pair
  found-at = at-found h law s number amount t inside k i found

  -- a key that is there goes there
  routes : Routes h before k
  routes = elim (cases_eq (w.route k) number) as (λ _. w.route k ≡ number) [
    | inl here ↦ here
    | inr away ↦ absurd (none-some found.pair (sym (inside.shard.contents.routed k away) ∙ found-at))
  ]

  was-equal : Equal w k (slot spots i)
  was-equal = equal-found h law s number amount t inside k i found

  now-equal : Equal w k (Some q)
  now-equal p e = subst (λ x. h.eq x.0 k ≡ true) (same_Some q p e) equal

  alone : NoOther w spots k i
  alone = others-found h law s number amount t inside k i found

  shard : IsShard h after_it
  shard = record {
    contents = subst (λ xs. IsOnShard w number (taken xs)) (sym r.pairs)
        (on_shard-written w law.laws number spots k i (Some q) (routes-equal h law s number amount t inside k routes) within was-equal now-equal alone inside.shard.contents);
    number = inside.shard.number;
    amount = inside.shard.amount;
  }

  pub rewritten-len : length (pairs after_it) ≡ length (pairs before)
  rewritten-len = ap (λ xs. length (taken xs)) r.pairs ∙ length-taken-replace spots i q found.pair found.is

  pub rewritten-inside : Inside h law s number amount new
  rewritten-inside = record {
    shard = shard;
    table = r.table;
    hashed = subst (λ xs. IsHashed hash xs (hashes_in new)) (sym r.pairs)
        (subst (λ hs. IsHashed hash (set spots i (Some q)) hs) (sym r.hashes)
        (hashed-replace hash spots _ i found.pair q within found.is ((law.respects s found.pair.0 k found.equal ∙ sym (law.respects s q.0 k equal))) inside.hashed));
    counted = r.len ∙ inside.counted ∙ sym rewritten-len;
  }

  pub rewritten-at : (j : K) → at w.eq (pairs after_it) j ≡ (if h.eq k j then Some q else at w.eq (pairs before) j)
  rewritten-at j = ap (λ xs. at w.eq (taken xs) j) r.pairs ∙ at-written w law.laws spots k i (Some q) within was-equal now-equal alone j

  -- where f makes the new pair of the old one
  module _ (f : Option (K × V) → Option (K × V)) (makes : f (Some found.pair) ≡ Some q) where
    pub rewritten-becomes : (j : K) → at w.eq (pairs after_it) j ≡ (if h.eq k j then f (at w.eq (pairs before) j) else at w.eq (pairs before) j)
    rewritten-becomes j = rewritten-at j ∙ elim (cases_Bool (h.eq k j)) as (λ _. (if h.eq k j then Some q else at w.eq (pairs before) j) ≡ (if h.eq k j then f (at w.eq (pairs before) j) else at w.eq (pairs before) j)) [
      | inl same ↦ rw same (sym makes ∙ ap f (sym found-at ∙ at-equal w law.laws (pairs before) k j same))
      | inr other ↦ rw other refl
    ]

    pub rewritten-stays : (j : ℕ) (p : K × V) → slot spots j ≡ Some p → slot (pairs_in new) j ≡ (if h.eq k p.0 then f (Some p) else Some p)
    rewritten-stays j p e = ap (λ xs. slot xs j) r.pairs
        ∙ stays-written w law.laws spots k i (Some q) f within was-equal alone (λ x there. sym makes ∙ ap f (sym found.is ∙ there)) j p e
