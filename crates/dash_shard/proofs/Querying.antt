-- The calls that change the pair whose key is named, by an action.
use Rattle.std.proofs.Common.{◌≡◌, ℕ, ◌+◌, Bool, true, false, List, set, Option, Some, None, IfSome, sym, subst, ◌∙◌, inl, inr}
use Rattle.std.proofs.lemmas.Bool.{cases_eq}
use Rattle.std.proofs.lemmas.Option.{none-some}
use Rattle.dash_shard.specs.Hashing.{KeyHash, route_by}
use Rattle.dash_shard.specs.Contents.{at_named, at}
use Rattle.dash_shard.specs.Steps.{RemoveIfMut, Alter, Pair, Done}
use Rattle.dash_shard.specs.Shard.{ShardState, slot, pairs, Routes, TakesBy}
use Rattle.dash_shard.specs.Held.{Loses}
use Rattle.dash_shard.specs.declared.shard.table.Table.{Table}
use Rattle.dash_shard.specs.inner.Keys.{IsLawful}
use Rattle.dash_shard.specs.inner.Table.{Holds, HoldsNamed, IsTable, IsRewritten, pairs_in, hashes_in}
use Rattle.dash_shard.proofs.Altering.{to, alters, stays-changed, gone-changed}
use Rattle.dash_shard.proofs.Naming.{IsOne, as-key, named-alike}
use Rattle.dash_shard.proofs.Shards.{state, Inside, at-found}

module _ {K V S : Type 0} (h : KeyHash K S) (law : IsLawful h) (names : K → Bool) (one : IsOne h.eq names) where
  module _ (s : S) (number amount : ℕ) (t new : Table K V) (inside : Inside h law s number amount t) (i : ℕ) (found : HoldsNamed names (pairs_in t) i)
      (z : ShardState K V S) (view : state h law s number amount t ≡ z) where
    -- each key that is named equals that of the pair in the slot
    abbrev pub keyed : (k : K) → names k ≡ true → Holds h.eq (pairs_in t) k i
    keyed k named = record { within = found.within; pair = found.pair; is = found.is; equal = sym (one found.pair.0 k found.equal) ∙ named }

    -- so does the stored one, and the pair is what is found
    abbrev pub stored : Holds h.eq (pairs_in t) found.pair.0 i
    stored = keyed found.pair.0 found.equal

    pub named-found : at_named names (pairs z) ≡ Some found.pair
    named-found = subst (λ x. at_named names (pairs x) ≡ Some found.pair) view
        (named-alike names (λ j. h.eq j found.pair.0) (as-key h law names one found.pair.0 found.equal) (pairs (state h law s number amount t)) ∙ at-found h law s number amount t inside found.pair.0 i stored)

    -- each key that is named goes to the shard
    pub routes-named : (k : K) → names k ≡ true → Routes h z k
    routes-named k named = subst (λ x. Routes h x k) view (elim (cases_eq (route_by h s amount k) number) as (λ _. route_by h s amount k ≡ number) [
      | inl same ↦ same
      | inr other ↦ absurd (none-some found.pair (sym (inside.shard.contents.routed k other) ∙ at-found h law s number amount t inside k i (keyed k named)))
    ])

    stood : (P : K × V → Type 0) → P found.pair → IfSome (at_named names (pairs z)) P
    stood P holds = rw named-found holds

    some : {A : Type 0} → at_named names (pairs z) ≡ None → A
    some none = absurd (none-some found.pair (sym none ∙ named-found))

    pub stays-named : (v : V) → IsRewritten i (found.pair.0, v) t new → (P : K × V → V × Bool → Type 0) → P found.pair (v, false)
        → TakesBy h.eq z (state h law s number amount new) RemoveIfMut names (Pair None) P
    stays-named v r P holds = (
      to v false,
      record {
        each = λ k named. stays-changed h law s number amount t new inside k i (keyed k named) z view v r;
        none = some;
        stays = (stays-changed h law s number amount t new inside found.pair.0 i stored z view v r).taken.stays;
      },
      stood (λ p. P p (v, false)) holds,
    )

    pub alters-named : (G : K × V → V → Type 0) → IfSome (slot (pairs_in t) i) (λ p. (v : V) × IsRewritten i (p.0, v) t new × G p v)
        → TakesBy h.eq z (state h law s number amount new) Alter names Done (λ p d. G p d.0)
    alters-named G gave =
        let given : (v : V) × IsRewritten i (found.pair.0, v) t new × G found.pair v = subst (λ o. IfSome o (λ p. (v : V) × IsRewritten i (p.0, v) t new × G p v)) found.is gave in (
          to given.0 true,
          record {
            each = λ k named. alters h law s number amount t new inside k i (keyed k named) z view given.0 given.1 true;
            none = some;
            stays = (alters h law s number amount t new inside found.pair.0 i stored z view given.0 given.1 true).taken.stays;
          },
          stood (λ p. G p given.0) given.2,
        )

    module _ (v : V) (mid : Table K V) (r : IsRewritten i (found.pair.0, v) t mid) (slots : pairs_in new ≡ set (pairs_in mid) i None)
        (hashes : hashes_in new ≡ hashes_in mid) (len : new.len + 1 ≡ mid.len) (table : IsTable new) where
      pub gone-named : (P : K × V → V × Bool → Type 0) → P found.pair (v, true) → TakesBy h.eq z (state h law s number amount new) RemoveIfMut names (Pair (Some (found.pair.0, v))) P
      gone-named P holds = (
        to v true,
        record {
          each = λ k named. gone-changed h law s number amount t new inside k i (keyed k named) z view (routes-named k named) v mid r slots hashes len table;
          none = some;
          stays = (gone-changed h law s number amount t new inside found.pair.0 i stored z view (routes-named found.pair.0 found.equal) v mid r slots hashes len table).taken.stays;
        },
        stood (λ p. P p (v, true)) holds,
      )
