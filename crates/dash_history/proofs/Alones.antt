-- The shards of a recorded map of one owner.
use Rattle.std.proofs.Common.{◌≡◌, ℕ, ◌<◌, ◌≤◌, List, length, Some, arith, sym, ap, subst, ◌∙◌, inl, inr, refl, get_or, option_map, slice_get, slice_set}
use mathlib.Core.Path.{fun_ext}
use Rattle.std.specs.Prelude.{⊤}
use Rattle.std.specs.Option.{option_map_or}
use Rattle.std.proofs.lemmas.List.{set-get_or}
use Rattle.std.proofs.lemmas.Bool.{cases_eq}
use Rattle.std.proofs.lemmas.Option.{slice_get-get_or, slice_get-map, slice_get_within, same_Some}
use Rattle.std.proofs.Math.ListN.{length-set}
use Rattle.dash_shard.proofs.Rows.{slice_get-set_same, slice_get-set_other}
use Rattle.dash_shard.specs.Contents.{keys}
use Rattle.dash_shard.specs.Hashing.{KeyHash, IsAmount, HashAlike, route_by, route_of_hash}
use Rattle.dash_shard.specs.Shard.{SameShard}
use Rattle.dash_shard.specs.Steps.{Line, at_key, on_shard, line}
use Rattle.dash_shard.specs.inner.Steps.{step_shard}
use Rattle.dash_steps.specs.declared.step.ShardStep.{ShardStep}
use Rattle.dash_steps.specs.declared.step.Reply as program
use Rattle.dash_steps.specs.Steps.{step_of}
use Rattle.dash_steps.specs.inner.Hashed.{OfKey, IsHashBy, HasHash}
use Rattle.dash_steps.specs.Takes.{Kinds, Known, kinds_at, rules, shard_of}
use Rattle.dash_steps.specs.inner.Kinds.{kinds, kinds_of}
use Rattle.dash_history.specs.History.{RecState, LogState, IsRecorded, Recorded, last_or}
use Rattle.dash_history.specs.OneHistory.{histories}
use Rattle.dash_history.specs.Merge.{record_at}
use Rattle.dash_history.specs.Alone.{RecAloneState, IsRecAlone, Applied, last_at, kinds_in}
use Rattle.dash_history.specs.Held.{IsRecTagged}

module _ {K V A S : Type 0} (h : KeyHash K S) where
  pub tagged-moved : (base : S) (n c i : ℕ) (s t : RecState K V A S) → IsRecTagged h base n c i s → SameShard s.shard t.shard → t.callers ≡ s.callers → IsRecTagged h base n c i t
  tagged-moved base n c i s t p stays callers = record {
    number = stays.number ∙ p.number;
    amount = stays.amount ∙ p.amount;
    callers = callers ∙ p.callers;
    hashes = subst (λ x. HashAlike h base x) (sym stays.hasher) p.hashes;
  }

-- what holds of each item of a row, and of the one that is put at i, holds of each afterwards
each-set : {X : Type 0} (P : ℕ → X → Type 0) (i : ℕ) (row : List X) (s t : X) → slice_get row i ≡ Some s → ((j : ℕ) (x : X) → slice_get row j ≡ Some x → P j x) → P i t
    → (j : ℕ) (x : X) → slice_get (slice_set row i t) j ≡ Some x → P j x
each-set P i row s t here each new j x e = elim (cases_eq j i) as (λ _. P j x) [
  | inl same ↦
      let put : t ≡ x = same_Some t x (sym (slice_get-set_same row i t (slice_get_within row i s here)) ∙ ap (λ n. slice_get (slice_set row i t) n) (sym same) ∙ e) in
      subst (λ n. P n x) (sym same) (subst (P i) put new)
  | inr other ↦ each j x (slice_get-set_other row i j t x other e)
]

-- one shard changed where it stood
pub alone-set : {K V A S : Type 0} (w : Known K V A S) (base : S) (c i : ℕ) (row : List (RecState K V A S)) (s t : RecState K V A S) → IsRecAlone w (record { hasher = base; callers = c; row = row }) → slice_get row i ≡ Some s
    → SameShard s.shard t.shard → t.callers ≡ s.callers → IsRecorded w t → IsRecAlone w (record { hasher = base; callers = c; row = slice_set row i t })
alone-set w base c i row s t a here stays callers legal =
    let long : length (slice_set row i t) ≡ length row = length-set row i t in
    record {
      amount = subst IsAmount (sym long) a.amount;
      callers = a.callers;
      tagged = λ j x e. subst (λ n. IsRecTagged w.keys base n c j x) (sym long)
          (each-set (λ k y. IsRecTagged w.keys base (length row) c k y) i row s t here a.tagged (tagged-moved w.keys base (length row) c i s t (a.tagged i s here) stays callers) j x e);
      recorded = each-set (λ _ y. IsRecorded w y) i row s t here a.recorded legal;
    }

-- the hash by a hasher that hashes alike
pub hash-alike : {K V S : Type 0} (h : KeyHash K S) (x y : S) → HashAlike h x y → (l : Line K V) (hash : ℕ) → OfKey l (λ k. hash ≡ h.hash x k) ⊤ → OfKey l (λ k. hash ≡ h.hash y k) ⊤
hash-alike h x y same (at_key k b r) hash is = is ∙ sym (same k)
hash-alike h x y same (on_shard i b r) hash is = tt

-- a shard knows what the map knows
pub kinds-same : {K V A S : Type 0} (w : Known K V A S) (base : S) (n c i : ℕ) (s : RecState K V A S) → IsRecTagged w.keys base n c i s → kinds_of w s.shard ≡ kinds_at w base n
kinds-same {K = K} {V = V} {A = A} w base n c i s p =
    let kinds_by : (K → ℕ) → ℕ → Kinds K V A = λ r a. kinds w.alike_action w.acts (rules w.alike_key w.alike_value (keys w.keys.eq r a)) in
    let route : (λ x. route_of_hash s.shard.amount (w.keys.hash s.shard.hasher x)) ≡ route_by w.keys base n = fun_ext (λ (x : K). ap (λ a. route_of_hash a (w.keys.hash s.shard.hasher x)) p.amount ∙ ap (route_of_hash n) (p.hashes x)) in
    ap (λ r. kinds_by r s.shard.amount) route ∙ ap (λ a. kinds_by (route_by w.keys base n) a) p.amount

-- the index that was computed is past the row
pub past_row : {K V A S : Type 0} (w : Known K V A S) (base : S) (c : ℕ) (row : List (RecState K V A S)) (z : RecAloneState K V A S) → record { hasher = base; callers = c; row = row } ≡ z → (step : ShardStep K V A) (p n : ℕ)
    → n ≡ length row → p ≡ step_shard (keys w.keys.eq (route_by w.keys base n) n) (step_of w.acts step) → n ≤ p → length z.row ≤ shard_of (kinds_in w z) step
past_row {K} {V} {A} {S} w base c row z view step p n long computed past =
    let At : Type 0 = RecAloneState K V A S in
    let there = subst (λ l. p ≡ step_shard (keys w.keys.eq (route_by w.keys base l) l) (step_of w.acts step)) long computed in
    subst (λ (x : At). length x.row ≤ shard_of (kinds_in w x) step) view (subst (λ q. length row ≤ q) there (omega arith))

-- The map, the index that was computed, and the shard that an index lends there.
module _ {K V A S : Type 0} (w : Known K V A S)
    (base : S) (c : ℕ) (row : List (RecState K V A S)) (z : RecAloneState K V A S) (view : record { hasher = base; callers = c; row = row } ≡ z)
    (a : IsRecAlone w (record { hasher = base; callers = c; row = row })) (step : ShardStep K V A) (p n : ℕ) (s : RecState K V A S)
    (long : n ≡ length row) (computed : p ≡ step_shard (keys w.keys.eq (route_by w.keys base n) n) (step_of w.acts step)) (within : p < length row) (read : s ≡ get_or row p s) where
  abbrev old : RecAloneState K V A S
  old = record { hasher = base; callers = c; row = row }

  abbrev set_row : RecAloneState K V A S → List (RecState K V A S) → RecAloneState K V A S
  set_row x r = record x { row = r }

  pub here : slice_get row p ≡ Some s
  here = slice_get-get_or row p s within ∙ ap Some (sym read)

  tagged : IsRecTagged w.keys base (length row) c p s
  tagged = a.tagged p s here

  same : kinds_of w s.shard ≡ kinds_in w z
  same = kinds-same w base (length row) c p s tagged ∙ ap (kinds_in w) view

  pub shard_is : p ≡ shard_of (kinds_in w z) step
  shard_is = computed ∙ ap (λ l. step_shard (keys w.keys.eq (route_by w.keys base l) l) (step_of w.acts step)) long ∙ ap (λ x. shard_of (kinds_in w x) step) view

  pub goes_there : shard_of (kinds_of w s.shard) step ≡ s.shard.number
  goes_there = ap (λ r. shard_of r step) same ∙ sym shard_is ∙ sym tagged.number

  pub hash_there : (hash : ℕ) → IsHashBy w.acts w.keys base step hash → HasHash w s.shard step hash
  hash_there hash is = hash-alike w.keys base s.shard.hasher tagged.hashes (line (step_of w.acts step)) hash is

  pub callers_are : s.callers ≡ z.callers
  callers_are = tagged.callers ∙ ap (λ x. x.callers) view

  pub count_is : length row ≡ length z.row
  count_is = ap (λ x. length x.row) view

  pub there : slice_get z.row (shard_of (kinds_in w z) step) ≡ Some s
  there = subst (λ x. slice_get x.row (shard_of (kinds_in w z) step) ≡ Some s) view (subst (λ i. slice_get row i ≡ Some s) shard_is here)

  pub last_is : s.last ≡ last_or 0 s.history → last_at z (shard_of (kinds_in w z) step) ≡ s.last
  last_is last = ap (λ o. option_map_or (λ x. last_or 0 x.history) o 0) there ∙ sym last

  pub applied : (t : RecState K V A S) (l l' : LogState K V A) (reply : program.Reply K V) → Recorded (kinds_of w s.shard) s t l l' step reply
      → Applied w z (record { hasher = base; callers = c; row = slice_set row p t }) l l' step reply
  applied t l l' reply r = record {
    before = s;
    after = t;
    here = there;
    recorded = subst (λ x. Recorded x s t l l' step reply) same r;
    others = ap (λ i. set_row old (slice_set row i t)) shard_is ∙ ap (λ x. set_row x (slice_set x.row (shard_of (kinds_in w z) step) t)) view;
  }

  -- the shard was put back as it was
  pub unchanged : (t : RecState K V A S) → t ≡ s → record { hasher = base; callers = c; row = slice_set row p t } ≡ z
  unchanged t e = ap (λ x. record { hasher = base; callers = c; row = slice_set row p x }) (e ∙ read) ∙ ap (λ x. record { hasher = base; callers = c; row = x }) (set-get_or row p s) ∙ view

-- what stands at a place of the map, whose fields are seen
pub stored-at : {K V A S : Type 0} (base : S) (c : ℕ) (row : List (RecState K V A S)) (z : RecAloneState K V A S) → record { hasher = base; callers = c; row = row } ≡ z → (i p : ℕ) (s : RecState K V A S) → i < length z.row → s ≡ get_or row i s
    → slice_get s.history p ≡ record_at (histories z) i p
stored-at base c row z view i p s within is =
    let there : slice_get row i ≡ Some s = slice_get-get_or row i s (subst (λ a. i < length a.row) (sym view) within) ∙ ap Some (sym is) in
    subst (λ a. slice_get s.history p ≡ record_at (histories a) i p) view (rw (slice_get-map (λ s. s.history) row i ∙ ap (option_map (λ s. s.history)) there) refl)
