-- The merge of a recorded map is one history of it.
use Rattle.std.proofs.Common.{◌≡◌, ℕ, zero, suc, ◌<◌, ◌==◌, cond, true, false, List, [], ◌∷◌, ◌++◌, filter, map, flat_map, length, Some, slice_get, get_or, option_map, All, ◌+◌, refl, sym, ap, subst, ◌∙◌, inl, inr, arith}
use Rattle.std.proofs.lemmas.List.{length-map}
use Rattle.std.proofs.lemmas.List.Elements.{All-nil, All-cons}
use Rattle.std.proofs.lemmas.Option.{slice_get-get_or, slice_get_within, slice_get-map, same_Some, get_or_from_slice_get}
use Rattle.dash_shard.proofs.Routing.{route_below}
use Rattle.dash_shard.specs.Contents.{IsOnShard}
use Rattle.dash_shard.specs.inner.Steps.{step_shard}
use Rattle.dash_shard.specs.Shard.{pairs}
use Rattle.dash_history.specs.Alone.{RecAloneState, IsRecAlone, kinds_in}
use Rattle.dash_history.specs.History.{RecState, IsHistory, Rises, done}
use Rattle.dash_steps.specs.Takes.{shard_of, Known, Kinds, Runs}
use Rattle.dash_history.specs.Merge.{IsMerge, along}
use Rattle.dash_history.specs.OneHistory.{IsOneHistory, of_shard, histories, rec_contents}
use Rattle.dash_history.specs.declared.record.Record.{Record}
use Rattle.dash_history.specs.declared.place.At.{At}
use Rattle.dash_history.proofs.Alones.{kinds-same}
use Rattle.dash_history.proofs.Alongs.{Tidy, along-has, caller-along, keeps-shard}
use Rattle.dash_steps.proofs.Copies.{Lawful}
use Rattle.dash_steps.proofs.Frames.{Spread, at_shard, runs-union}
use Rattle.dash_history.proofs.Ordered.{Has, has-get, mapped-get}
use Rattle.dash_history.proofs.Lists.{get-within}

pub all-has : {X : Type 0} (P : X → Type 0) (xs : List X) (x : X) → All P xs → Has xs x → P x
all-has P xs x all m =
    let r = has-get xs x m in
    let within = slice_get_within xs r.0 x r.1 in
    subst P (same_Some _ x (sym (slice_get-get_or xs r.0 x within) ∙ r.1)) (all r.0 x within)

pub has-all : {X : Type 0} (P : X → Type 0) (xs : List X) → ((x : X) → Has xs x → P x) → All P xs
has-all P [] f = All-nil P
has-all P (x ∷ xs) f = All-cons P x xs (f x (inl refl)) (has-all P xs (λ y m. f y (inr m)))

pub flat_map-map : {X Y : Type 0} (f : X → List Y) (xs : List X) → flat_map (λ P. P) (map f xs) ≡ flat_map f xs
flat_map-map f [] = refl
flat_map-map f (x ∷ xs) = ap (λ l. f x ++ l) (flat_map-map f xs)

-- lists of nothing, one for each
module _ {X Y : Type 0} where
  pub blank : X → List Y
  blank x = []

  pub blank-union : (xs : List X) → flat_map (λ P. P) (map blank xs) ≡ []
  unfolding blank
  blank-union [] = refl
  blank-union (x ∷ xs) = blank-union xs

  pub blank-at : (xs : List X) (i : ℕ) → get_or (map blank xs) i [] ≡ []
  unfolding blank
  blank-at [] i = refl
  blank-at (x ∷ xs) zero = refl
  blank-at (x ∷ xs) (suc i) = blank-at xs i

module _ {K V A S : Type 0} (w : Known K V A S) (a : RecAloneState K V A S) (alone : IsRecAlone w a) (laws : Lawful (kinds_in w a).rules) where
  abbrev m : Kinds K V A
  m = kinds_in w a

  pub legal : (i : ℕ) (s : RecState K V A S) → slice_get a.row i ≡ Some s → IsHistory m a.callers i s.history (pairs s.shard)
  legal i s e =
      let t = alone.tagged i s e in
      subst (λ n. IsHistory m a.callers n s.history (pairs s.shard)) t.number
      (subst (λ c. IsHistory m c s.shard.number s.history (pairs s.shard)) t.callers
      (subst (λ k. IsHistory k s.callers s.shard.number s.history (pairs s.shard)) (kinds-same w a.hasher (length a.row) a.callers i s t) (alone.recorded i s e).history))

  pub of-shard : (i : ℕ) (h : List (Record K V A)) (r : Record K V A) → slice_get (histories a) i ≡ Some h → Has h r → (r.shard ≡ i) × (shard_of m r.step ≡ i) × (r.caller < a.callers)
  of-shard i h r e x =
      let f = mapped-get (λ s. s.history) a.row i h e in
      all-has (λ r. (r.shard ≡ i) × (shard_of m r.step ≡ i) × (r.caller < a.callers)) h r (subst (λ l. All (λ r. (r.shard ≡ i) × (shard_of m r.step ≡ i) × (r.caller < a.callers)) l) f.2 (legal i f.0 f.1).of) x

  pub tidy : Tidy (histories a)
  tidy = record {
    of = λ s h r e x. (of-shard s h r e x).0;
    rises = λ s h e. let f = mapped-get (λ s. s.history) a.row s h e in subst (Rises 0) f.2 (legal s f.0 f.1).rises;
  }

  module _ (ats : List At) (merge : IsMerge (histories a) ats) where
    pub caller-below : (x : At) → Has ats x → x.caller < a.callers
    caller-below x h = let f = caller-along (histories a) ats tidy merge x h in subst (λ n. n < a.callers) f.5 (of-shard f.0 f.1 f.2 f.3 f.4).2

    pub goes : (r : Record K V A) → Has (along (histories a) ats) r → (shard_of m r.step ≡ r.shard) × (r.shard < length a.row)
    goes r x =
        let f = along-has (histories a) ats tidy merge r x in
        ((of-shard r.shard f.0 r f.1 f.2).1, omega (arith, slice_get_within (histories a) r.shard f.0 f.1, length-map a.row (λ s. s.history)))

    -- the steps on a shard are those of the records that name it
    pub steps-of : (s : ℕ) (rs : List (Record K V A)) → ((r : Record K V A) → Has rs r → shard_of m r.step ≡ r.shard) → filter (λ d. step_shard m.rules.keys d.0 == s) (map (done w.acts) rs) ≡ map (done w.acts) (of_shard s rs)
    steps-of s [] f = refl
    steps-of s (r ∷ rs) f =
        rw (f r (inl refl)) (elim (r.shard == s) as (λ b. cond b (done w.acts r ∷ filter (λ d. step_shard m.rules.keys d.0 == s) (map (done w.acts) rs)) (filter (λ d. step_shard m.rules.keys d.0 == s) (map (done w.acts) rs))
        ≡ map (done w.acts) (cond b (r ∷ of_shard s rs) (of_shard s rs)))
        [ true ↦ ap (λ l. done w.acts r ∷ l) (steps-of s rs (λ q x. f q (inr x))) | false ↦ steps-of s rs (λ q x. f q (inr x)) ])

    pub in-range : (n : ℕ) (rs : List (Record K V A)) → ((r : Record K V A) → Has rs r → shard_of m r.step < n) → All (λ d. step_shard m.rules.keys d.0 < n) (map (done w.acts) rs)
    in-range n [] f = All-nil (λ d. step_shard m.rules.keys d.0 < n)
    in-range n (r ∷ rs) f = All-cons (λ d. step_shard m.rules.keys d.0 < n) (done w.acts r) (map (done w.acts) rs) (f r (inl refl)) (in-range n rs (λ q x. f q (inr x)))

    -- on each shard its own steps run from no pairs to its pairs
    one : (s : ℕ) → s < length a.row → Runs m.rules (get_or (map blank a.row) s []) (at_shard m.rules laws s (map (done w.acts) (along (histories a) ats))) (get_or (map (λ s. pairs s.shard) a.row) s [])
    one s lt =
        let f = get-within a.row s lt in
        let h = slice_get-map (λ s. s.history) a.row s ∙ ap (option_map (λ s. s.history)) f.1 in
        let P = get_or_from_slice_get (map (λ s. pairs s.shard) a.row) s (pairs f.0.shard) [] (slice_get-map (λ s. pairs s.shard) a.row s ∙ ap (option_map (λ s. pairs s.shard)) f.1) in
        subst (λ P. Runs m.rules P (at_shard m.rules laws s (map (done w.acts) (along (histories a) ats))) (get_or (map (λ s. pairs s.shard) a.row) s [])) (sym (blank-at a.row s))
        (subst (λ Q. Runs m.rules [] (at_shard m.rules laws s (map (done w.acts) (along (histories a) ats))) Q) (sym P)
        (subst (λ l. Runs m.rules [] l (pairs f.0.shard)) (sym (steps-of s (along (histories a) ats) (λ r x. (goes r x).0) ∙ ap (map (done w.acts)) (keeps-shard (histories a) ats tidy merge s f.0.history h)))
        (legal s f.0 f.1).runs))

    pub blank-spread : Spread m.rules laws (map blank a.row)
    unfolding blank
    blank-spread j P e = let f = mapped-get blank a.row j P e in subst (λ l. IsOnShard m.rules.keys (0 + j) l) f.2 (record { distinct = tt; routed = λ k away. refl })

    runs-along : Runs m.rules [] (map (done w.acts) (along (histories a) ats)) (rec_contents a)
    runs-along =
        let size : length (map (blank {X = RecState K V A S} {Y = K × V}) a.row) ≡ length a.row = length-map a.row blank in
        let ds = map (done w.acts) (along (histories a) ats) in
        subst (λ P. Runs m.rules P ds (rec_contents a)) (blank-union a.row)
        (subst (λ Q. Runs m.rules (flat_map (λ P. P) (map blank a.row)) ds Q) (flat_map-map (λ s. pairs s.shard) a.row)
        (runs-union m.rules laws ds (map blank a.row) (map (λ s. pairs s.shard) a.row) (length-map a.row (λ s. pairs s.shard) ∙ sym size)
        (λ k. subst (λ n. m.rules.keys.route k < n) (sym size) (route_below (w.keys.hash a.hasher k) (length a.row) (omega (arith, alone.amount.several))))
        blank-spread
        (subst (λ n. All (λ d. step_shard m.rules.keys d.0 < n) ds) (sym size) (in-range (length a.row) (along (histories a) ats) (λ r x. let g = goes r x in omega (arith, g.0, g.1))))
        (λ s lt. one s (omega (arith, lt, size)))))

    pub one-history : IsOneHistory w a ats
    one-history = record { merge = merge; shards = λ s h e. keeps-shard (histories a) ats tidy merge s h e; runs = runs-along }
