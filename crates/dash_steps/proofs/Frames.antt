-- A step on one shard is the same step on all shards together, and what runs shard by shard runs as a whole.
use Rattle.std.proofs.Common.{◌≡◌, ◌≢◌, ℕ, ◌+◌, ◌<◌, ◌==◌, cond, List, [], ◌∷◌, filter, length, Option, Some, None, slice_get, slice_set, get_or, flat_map, All, refl, sym, ap, subst, ◌∙◌, inl, inr, arith, eq-eqb, ne_eqb, ext_get_or, get_or-set_same, get_or-set_other}
use Rattle.std.proofs.Math.ListN.{length-set}
use Rattle.std.proofs.lemmas.Bool.{cases_Bool, cases_eq}
use Rattle.std.proofs.lemmas.List.Elements.{All-head, All-tail}
use Rattle.std.proofs.lemmas.Option.{slice_get-get_or, slice_get_within, same_Some}
use Rattle.dash_shard.proofs.Rows.{slice_get-set_same, slice_get-set_other}
use Rattle.dash_shard.proofs.Unions.{OnShards, at-union, distinct-union, each-same}
use Rattle.dash_shard.specs.Contents.{at, IsOnShard}
use Rattle.dash_shard.specs.Steps.{Line, at_key, on_shard, line, line_shard, line_after, LineReplies, Step, Reply}
use Rattle.dash_shard.specs.inner.Steps.{after, step_shard}
use Rattle.dash_steps.specs.Takes.{Rules, Takes, Runs}
use Rattle.dash_steps.specs.inner.Copied.{AlikeAt}
use Rattle.dash_steps.proofs.Copies.{Lawful, at_laws}

module _ {K V : Type 0} (m : Rules K V) (laws : Lawful m) where
  -- a line leaves what stands at the keys of other shards
  after-elsewhere : (l : Line K V) (j : K) (o : Option (K × V)) → m.keys.route j ≢ line_shard m.keys l → line_after m.keys l j o ≡ o
  after-elsewhere (at_key k b r) j o ne = elim (cases_Bool (m.keys.eq k j)) as (λ _. cond (m.keys.eq k j) (b o) o ≡ o) [
    | inl same ↦ absurd (ne (sym (laws.route_same k j same)))
    | inr other ↦ ap (λ t. cond t (b o) o) other
  ]
  after-elsewhere (on_shard i b r) j o ne = rw (ne_eqb (m.keys.route j) i ne) refl

  -- a line replies by what stands on its shard
  replies-there : (l : Line K V) (P R : List (K × V)) (r : Reply K V) → ((k : K) → m.keys.route k ≡ line_shard m.keys l → at m.keys.eq P k ≡ at m.keys.eq R k) → LineReplies m.keys l P r → LineReplies m.keys l R r
  replies-there (at_key k b replies) P R r same h = h ∙ ap replies (same k refl)
  replies-there (on_shard i b replies) P R r same h = (h.0, each-same m.keys laws.route_same i P R h.0 same h.1, h.2)

  none-alike : (o : Option (K × V)) → AlikeAt m None o → o ≡ None
  none-alike None a = refl
  none-alike (Some p) a = cc

  -- what a step on a shard leaves has the keys of that shard
  pub on-after : (P Q : List (K × V)) (step : Step K V) (reply : Reply K V) → IsOnShard m.keys (step_shard m.keys step) P → Takes m P step reply Q → IsOnShard m.keys (step_shard m.keys step) Q
  on-after P Q step reply on t = record {
    distinct = t.distinct;
    routed = λ k away. none-alike (at m.keys.eq Q k) (subst (λ o. AlikeAt m o (at m.keys.eq Q k)) (after-elsewhere (line step) k (at m.keys.eq P k) away ∙ on.routed k away) (t.each_key k));
  }

  -- A row of shards, of which f gives the pairs.
  module _ {X : Type 0} (f : X → List (K × V)) (xs : List X) (below : (k : K) → m.keys.route k < length xs) (on : OnShards m.keys f 0 xs) (step : Step K V) (reply : Reply K V) (x y : X)
      (here : slice_get xs (step_shard m.keys step) ≡ Some x) (t : Takes m (f x) step reply (f y)) where
    abbrev s : ℕ
    s = step_shard m.keys step

    pub spread-set : OnShards m.keys f 0 (slice_set xs s y)
    spread-set = λ j u e. elim (cases_eq j s) as (λ _. IsOnShard m.keys (0 + j) (f u)) [
      | inl same ↦
          let is : y ≡ u = same_Some y u (sym (slice_get-set_same xs s y (slice_get_within xs s x here)) ∙ ap (slice_get (slice_set xs s y)) (sym same) ∙ e) in
          let one : 0 + s ≡ s = omega arith in
          let all : IsOnShard m.keys s (f y) = on-after (f x) (f y) step reply (subst (λ n. IsOnShard m.keys n (f x)) one (on s x here)) t in
          subst (λ z. IsOnShard m.keys (0 + j) (f z)) is (subst (λ n. IsOnShard m.keys n (f y)) (let two : s ≡ 0 + j = omega (arith, same) in two) all)
      | inr other ↦ on j u (slice_get-set_other xs s j y u other e)
    ]

    -- THE FRAME
    pub lift : Takes m (flat_map f xs) step reply (flat_map f (slice_set xs s y))
    lift = record {
      in_range = t.in_range;
      answers = record {
        told = t.answers.told;
        replies = replies-there (line step) (f x) (flat_map f xs) t.answers.told (λ k goes. sym (at-union m.keys f xs k x on (ap (slice_get xs) goes ∙ here))) t.answers.replies;
        alike = t.answers.alike;
      };
      each_key = λ j. elim (cases_eq (m.keys.route j) s) as (λ _. AlikeAt m (after m.keys step j (at m.keys.eq (flat_map f xs) j)) (at m.keys.eq (flat_map f (slice_set xs s y)) j)) [
        | inl goes ↦
            let old : at m.keys.eq (flat_map f xs) j ≡ at m.keys.eq (f x) j = at-union m.keys f xs j x on (ap (slice_get xs) goes ∙ here) in
            let new : at m.keys.eq (flat_map f (slice_set xs s y)) j ≡ at m.keys.eq (f y) j =
            at-union m.keys f (slice_set xs s y) j y spread-set (ap (slice_get (slice_set xs s y)) goes ∙ slice_get-set_same xs s y (slice_get_within xs s x here)) in
            rw (old, new) (t.each_key j)
        | inr other ↦
            let u = get_or (slice_set xs s y) (m.keys.route j) x in
            let there : slice_get (slice_set xs s y) (m.keys.route j) ≡ Some u = slice_get-get_or (slice_set xs s y) (m.keys.route j) x (omega (arith, below j, length-set xs s y)) in
            let old : at m.keys.eq (flat_map f xs) j ≡ at m.keys.eq (f u) j = at-union m.keys f xs j u on (slice_get-set_other xs s (m.keys.route j) y u other there) in
            let new : at m.keys.eq (flat_map f (slice_set xs s y)) j ≡ at m.keys.eq (f u) j = at-union m.keys f (slice_set xs s y) j u spread-set there in
            rw (old, new, after-elsewhere (line step) j (at m.keys.eq (f u) j) other) ((at_laws m laws).refl (at m.keys.eq (f u) j))
      ];
      distinct = distinct-union m.keys f laws.equal 0 (slice_set xs s y) spread-set;
    }

  abbrev pub union : List (List (K × V)) → List (K × V)
  union Ps = flat_map (λ P. P) Ps

  -- the keys of each list go to its shard
  abbrev pub Spread : List (List (K × V)) → Type 0
  Spread Ps = OnShards m.keys (λ P. P) 0 Ps

  -- the steps on shard s, with their replies
  abbrev pub at_shard : ℕ → List (Step K V × Reply K V) → List (Step K V × Reply K V)
  at_shard s ds = filter (λ d. step_shard m.keys d.0 == s) ds

  pub runs-union : (ds : List (Step K V × Reply K V)) (Ps Qs : List (List (K × V))) → length Qs ≡ length Ps → ((k : K) → m.keys.route k < length Ps) → Spread Ps → All (λ d. step_shard m.keys d.0 < length Ps) ds
      → ((s : ℕ) → s < length Ps → Runs m (get_or Ps s []) (at_shard s ds) (get_or Qs s [])) → Runs m (union Ps) ds (union Qs)
  runs-union [] Ps Qs long below on in_range each = ap union (ext_get_or [] Ps Qs (sym long) each)
  runs-union (d ∷ ds) Ps Qs long below on in_range each =
      let s = step_shard m.keys d.0 in
      let within : s < length Ps = All-head (λ d. step_shard m.keys d.0 < length Ps) d ds in_range in
      let first : Runs m (get_or Ps s []) (d ∷ at_shard s ds) (get_or Qs s []) =
      subst (λ l. Runs m (get_or Ps s []) l (get_or Qs s [])) (ap (λ b. cond b (d ∷ at_shard s ds) (at_shard s ds)) (eq-eqb s s refl)) (each s within) in
      let M = first.0 in
      let here = slice_get-get_or Ps s [] within in
      let size : length (slice_set Ps s M) ≡ length Ps = length-set Ps s M in (
        union (slice_set Ps s M),
        lift (λ P. P) Ps below on d.0 d.1 (get_or Ps s []) M here first.1,
        runs-union ds (slice_set Ps s M) Qs (long ∙ sym size) (λ k. omega (arith, below k, size)) (spread-set (λ P. P) Ps below on d.0 d.1 (get_or Ps s []) M here first.1)
            (subst (λ n. All (λ d. step_shard m.keys d.0 < n) ds) (sym size) (All-tail (λ d. step_shard m.keys d.0 < length Ps) d ds in_range))
            (λ i lt. elim (cases_eq i s) as (λ _. Runs m (get_or (slice_set Ps s M) i []) (at_shard i ds) (get_or Qs i [])) [
              | inl same ↦ subst (λ i. Runs m (get_or (slice_set Ps s M) i []) (at_shard i ds) (get_or Qs i [])) (sym same) (subst (λ P. Runs m P (at_shard s ds) (get_or Qs s [])) (sym (get_or-set_same Ps s M [] within)) first.2)
              | inr other ↦ subst (λ P. Runs m P (at_shard i ds) (get_or Qs i [])) (sym (get_or-set_other Ps s i M [] other))
                  (subst (λ l. Runs m (get_or Ps i []) l (get_or Qs i [])) (ap (λ b. cond b (d ∷ at_shard i ds) (at_shard i ds)) (ne_eqb s i (λ e. other (sym e)))) (each i (subst (λ n. i < n) size lt)))
            ]),
      )
