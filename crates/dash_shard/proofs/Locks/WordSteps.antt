-- One step on a lock's word, under its invariant. Assumes `Logic`.
use Rattle.dash_shard.proofs.Locks.Walking.{[], ◌≢◌, ◌≡◌, ℕ, ◌+◌, ◌-◌, ◌%◌, ◌^◌, ◌<◌, ◌≤◌, eqb, Bool, ◌∷◌, sym, refl, subst, arith, eq-eqb, ne_eqb, w64, dite, ℕ_discrete, dec_le, Ura, ty_int, vint, has_ty, WT, full_share, Counts-all, SProp, ex, upd, upd_i, Lft, Share, Fml, ftrue, fsep, fex, fbor, flft, either, Logic, ‵, raw, ◌⊛◌, given, ◌$◌, ◌∵◌, !, qed, by, move, keep, drop, split, fsplit, fsplit3, fjoin, fjoin3, fpick, fpack, learn, show, frame, each, assume, suffices, settle, use1, use2, rewrite, done, out_once, RattleType, RowLaws, block_ptr, contraction, nothing, asks, word, borrowed, Lies, Again, out}
use Rattle.dash_shard.proofs.Locks.Words.{words}
use Rattle.core.specs.Sync.RawAtomic.{always}
use Rattle.core.specs.Prelude.{bit_and}
use Rattle.dash_shard.specs.LockState.{most, Steps}
use Rattle.dash_shard.specs.declared.lock.word.LockEvent.TheVariants.{ReleaseShared, ReleaseExclusive, Downgrade}
use Rattle.dash_shard.proofs.Locks.Counting.{shared_leaves, exclusive_leaves, downgrades}
use Rattle.dash_shard.specs.inner.Locks.Holding.{count, one_reader, Gains, fact, names, share, parts, idle, Fixed, Phase, away, shared, seen, state, State, Inv, begun, whole_round, gain_of, IsCounted, reader, round_of}
use Rattle.dash_shard.proofs.Locks.RoundParts.{parts_in, parts_cut, parts_glue, parts_whole, none_beside, parts_agree, renames}
use Rattle.dash_shard.proofs.Locks.Rounds.{seen_laws, seen_fits}

-- AND 6 leaves one reader, and the writers' mark
one_left : (n : ℕ) → n < 2 ^ 64 → most < count n → count (bit_and n 6) ≡ 1
one_left n fits h = let one : (k : ℕ) → n ≡ k → count (bit_and k 6) ≡ 1 → count (bit_and n 6) ≡ 1 = λ k e is. subst (λ (m : ℕ). count (bit_and m 6) ≡ 1) (sym e) is in
    dite (ℕ_discrete n 18446744073709551612) (λ e. one 18446744073709551612 e refl) (λ e₀. dite (ℕ_discrete n 18446744073709551613) (λ e. one 18446744073709551613 e refl) (λ e₁.
    dite (ℕ_discrete n 18446744073709551614) (λ e. one 18446744073709551614 e refl) (λ e₂. one 18446744073709551615 (omega arith) refl)))

module _ {M : Type 1} {𝓤 : Ura M} (𝓛 : Logic 𝓤) (R : RattleType) (ok : R.Denot → Type 0) (b o : ℕ) (t : Fixed R.Denot) where
  open 𝓛 use {H, A}
  open words 𝓛 use {◌⊢◌, ◌∗◌, ⟦◌⟧}

  abbrev α : Lft
  α = t.life

  abbrev I : Fml
  I = Inv R ok b o t

  abbrev St : ℕ → Fml
  St = State R ok b o t

  abbrev st : ℕ → Phase R.Denot → Fml
  st = state R ok b o t

  module _ (q : Share) where
    -- any step, from what it does to the state beside the word
    opened : (f : ℕ → ℕ) (after : ℕ → Fml) (K : Fml) → ((n : ℕ) → n < 2 ^ 64 → (p : Phase R.Denot) → ⟦ st n p ⟧ ∗ ⟦ K ⟧ ⊢ upd 𝓤 (⟦ St (f n) ⟧ ∗ ⟦ after n ⟧))
        → A.inv (fbor α I) ∗ (A.lft α q ∗ ⟦ K ⟧) ⊢ asks 𝓛 (block_ptr b (o + 0)) f always (λ n. fsep (flft α q) (after n))
    opened f after K law = let e : ℕ = o + 0 in let G : SProp 𝓤 = ex 𝓤 (Lies 𝓛 α q I b e f always after) in borrowed 𝓛 α q I b e f always after ⟦ K ⟧ (
        qed 𝓛 (‵ I ∷ ‵ K ∷ []) ∵ suffices ! _ (upd_i 𝓤 G) $ fpick ! (λ n. fsplit ! $
        use1 𝓛 (given (lib.Dec.T (has_ty (ty_int w64) (vint w64 n)) × WT (vint w64 n)) (‵ (word b e n))) (𝓛.laws.at_wt full_share (ty_int w64) b e (vint w64 n)) $ learn ! (λ g.
        show ! (Lies 𝓛 α q I b e f always after) n $ frame ! $ each ! (λ (_ : Unit {0}). Again 𝓛 α q I b e f always after n) (λ _. assume ! (‵ (word b e (f n))) $ move ! (1 ∷ []) $ fpick ! (λ p. move ! (0 ∷ 2 ∷ []) $
        use2 𝓛 (raw (upd 𝓤 (⟦ St (f n) ⟧ ∗ ⟦ after n ⟧))) (law n g.1.fits p) $ settle 𝓛 (⟦ I ⟧ ∗ ⟦ after n ⟧) (‵ (St (f n)) ⊛ ‵ (after n)) $ split ! $ suffices ! _ (upd_i 𝓤 (⟦ I ⟧ ∗ ⟦ after n ⟧)) $
        move ! (2 ∷ 0 ∷ []) $ fjoin ! $ fpack ! ℕ (λ m. fsep (word b e m) (St m)) (f n) $ done !)))))

    ends_as : (n : ℕ) (p : Phase R.Denot) (K : Fml) → ⟦ st n p ⟧ ∗ ⟦ K ⟧ ⊢ upd 𝓤 (⟦ St n ⟧ ∗ ⟦ K ⟧)
    ends_as n p K = qed 𝓛 (‵ (st n p) ∷ ‵ K ∷ []) ∵ suffices ! _ (upd_i 𝓤 (⟦ St n ⟧ ∗ ⟦ K ⟧)) $ fpack ! (Phase R.Denot) (st n) p $ done !

    pub looks : A.inv (fbor α I) ∗ (A.lft α q ∗ ⟦ ftrue ⟧) ⊢ asks 𝓛 (block_ptr b (o + 0)) (λ n. n) always (λ n. fsep (flft α q) ftrue)
    looks = opened (λ n. n) (λ _. ftrue) ftrue (λ n _ p. ends_as n p ftrue)

    -- a reader goes
    abbrev pub Left : ℕ → Fml
    Left n = fact (Steps ReleaseShared n (n - 4))

    gone : (a n : ℕ) → n < 2 ^ 64 → (p : Phase R.Denot) → ⟦ st n p ⟧ ∗ ⟦ parts t.round a 1 ⟧ ⊢ upd 𝓤 (⟦ St ((n + (2 ^ 64 - one_reader)) % 2 ^ 64) ⟧ ∗ ⟦ Left n ⟧)
    gone a n fits away = qed 𝓛 (‵ (st n away) ∷ ‵ (parts t.round a 1) ∷ []) ∵ fsplit ! $ drop ! $ fpick ! (λ c. by ! (none_beside 𝓛 t.round a c 1 _))
    gone a n fits (shared c x) = let w : ℕ = (n + (2 ^ 64 - one_reader)) % 2 ^ 64 in
        qed 𝓛 (‵ (st n (shared c x)) ∷ ‵ (parts t.round a 1) ∷ []) ∵ fsplit3 ! $ fpick ! (λ h. drop ! $ dite (ℕ_discrete (count n) 0)
        (λ z. rewrite ! 0 (λ (k : ℕ). ‵ (parts t.round c (2 ^ 63 - k))) z refl $ use1 𝓛 (‵ (share t.round c full_share)) (parts_whole 𝓛 t.round c) $ fsplit ! $ keep ! (1 ∷ 3 ∷ []) $ by ! (none_beside 𝓛 t.round a c 1 _))
        (λ z. move ! (0 ∷ 2 ∷ []) $ use2 𝓛 (given (c ≡ a) (‵ (parts t.round c (2 ^ 63 - count n)) ⊛ ‵ (parts t.round a 1))) (parts_agree 𝓛 t.round c a (2 ^ 63 - count n) 1) $ learn ! (λ same. split ! $
        rewrite ! 1 (λ (k : ℕ). ‵ (parts t.round k 1)) (sym same) refl $ use2 𝓛 (‵ (parts t.round c ((2 ^ 63 - count n) + 1))) (parts_glue 𝓛 t.round c (2 ^ 63 - count n) 1 (omega arith) (omega arith)) $
        let is : (2 ^ 63 - count n) + 1 ≡ 2 ^ 63 - count w = omega arith in rewrite ! 0 (λ (k : ℕ). ‵ (parts t.round c k)) is refl $ move ! (0 ∷ 1 ∷ []) $ fjoin ! $ nothing ! $
        fpack ! (count w ≤ most) (λ _. ftrue) (omega arith) $ fjoin ! $ nothing ! $ fpack ! (Steps ReleaseShared n (n - 4)) (λ _. ftrue) (shared_leaves n (omega arith) h) $ move ! (1 ∷ 0 ∷ []) $ by ! (ends_as w (shared c x) (Left n)))))

    pub leaves : (a : ℕ) → A.inv (fbor α I) ∗ (A.lft α q ∗ ⟦ parts t.round a 1 ⟧) ⊢ asks 𝓛 (block_ptr b (o + 0)) (λ n. (n + (2 ^ 64 - one_reader)) % 2 ^ 64) always (λ n. fsep (flft α q) (Left n))
    leaves a = opened (λ n. (n + (2 ^ 64 - one_reader)) % 2 ^ 64) Left (parts t.round a 1) (gone a)

    -- a writer goes
    abbrev pub Opened : ℕ → Fml
    Opened n = fact (Steps ReleaseExclusive n 0)

    back : (x : R.Denot) (n : ℕ) (p : Phase R.Denot) → ⟦ st n p ⟧ ∗ ⟦ whole_round R ok b o t x ⟧ ⊢ upd 𝓤 (⟦ St 0 ⟧ ∗ ⟦ Opened n ⟧)
    back x n (shared c y) = qed 𝓛 (‵ (st n (shared c y)) ∷ ‵ (whole_round R ok b o t x) ∷ []) ∵ fsplit3 ! $ move ! (2 ∷ []) $ fsplit ! $ move ! (4 ∷ []) $ fsplit ! $ keep ! (0 ∷ 2 ∷ []) $ by ! (out_once 𝓛 t.lent (⟦ St 0 ⟧ ∗ ⟦ Opened n ⟧))
    back x n away = let Z : SProp 𝓤 = ⟦ St 0 ⟧ ∗ ⟦ Opened n ⟧ in qed 𝓛 (‵ (st n away) ∷ ‵ (whole_round R ok b o t x) ∷ []) ∵ fsplit ! $ fpick ! (λ h. drop ! $ fpick ! (λ c. move ! (1 ∷ []) $ fsplit ! $ move ! (1 ∷ []) $ fpick ! (λ a. fsplit ! $ move ! (3 ∷ []) $
        -- [the name; the token; the round; out]
        use1 𝓛 (raw (upd 𝓤 ⟦ names t.round full_share a ⟧)) (renames 𝓛 t.round c a) $ settle 𝓛 Z (‵ (names t.round full_share a)) $
        move ! (1 ∷ 0 ∷ []) $ fjoin ! $ use1 𝓛 (‵ (parts t.round a (2 ^ 63))) (parts_in 𝓛 t.round a (2 ^ 63) full_share (Counts-all 63)) $ move ! (0 ∷ 2 ∷ 1 ∷ []) $ fjoin3 ! $
        nothing ! $ fpack ! (count 0 ≤ most) (λ _. ftrue) (omega arith) $ fjoin ! $ nothing ! $ fpack ! (Steps ReleaseExclusive n 0) (λ _. ftrue) (exclusive_leaves n h) $ move ! (1 ∷ 0 ∷ []) $ by ! (ends_as 0 (shared a x) (Opened n)))))

    pub gives_back : (x : R.Denot) → A.inv (fbor α I) ∗ (A.lft α q ∗ ⟦ whole_round R ok b o t x ⟧) ⊢ asks 𝓛 (block_ptr b (o + 0)) (λ _. 0) always (λ n. fsep (flft α q) (Opened n))
    gives_back x = opened (λ _. 0) Opened (whole_round R ok b o t x) (λ n _. back x n)

    -- the marks change
    alike : (old new : ℕ) → count new ≡ count old → (p : Phase R.Denot) → ⟦ st old p ⟧ ∗ ⟦ ftrue ⟧ ⊢ upd 𝓤 (⟦ St new ⟧ ∗ ⟦ ftrue ⟧)
    alike old new same away = qed 𝓛 (‵ (st old away) ∷ ‵ ftrue ∷ []) ∵ rewrite ! 0 (λ (k : ℕ). ‵ (fsep (fact (most < k)) (idle t.round))) (sym same) refl $ by ! (ends_as new away ftrue)
    alike old new same (shared a x) = qed 𝓛 (‵ (st old (shared a x)) ∷ ‵ ftrue ∷ []) ∵ rewrite ! 0 (λ (k : ℕ). ‵ (fsep (fact (k ≤ most)) (fsep (parts t.round a (2 ^ 63 - k)) (fsep (out t.lent) (round_of R ok b o t a x))))) (sym same) refl $ by ! (ends_as new (shared a x) ftrue)

    pub remarks : (old new : ℕ) → count new ≡ count old → A.inv (fbor α I) ∗ (A.lft α q ∗ ⟦ ftrue ⟧) ⊢ asks 𝓛 (block_ptr b (o + 0)) (λ n. either (eqb n old) new n) always (λ n. fsep (flft α q) ftrue)
    remarks old new same = opened (λ n. either (eqb n old) new n) (λ _. ftrue) ftrue (λ n _ p. let F : Bool → Type 1 = λ y. ⟦ st n p ⟧ ∗ ⟦ ftrue ⟧ ⊢ upd 𝓤 (⟦ St (either y new n) ⟧ ∗ ⟦ ftrue ⟧) in dite (ℕ_discrete n old)
        (λ e. subst F (sym (eq-eqb n old e)) (subst (λ (k : ℕ). ⟦ st k p ⟧ ∗ ⟦ ftrue ⟧ ⊢ upd 𝓤 (⟦ St new ⟧ ∗ ⟦ ftrue ⟧)) (sym e) (alike old new same p)))
        (λ miss. subst F (sym (ne_eqb n old miss)) (ends_as n p ftrue)))

    -- a writer becomes a reader
    abbrev pub Softened : R.Denot → ℕ → Fml
    Softened x n = fsep (fact (Steps Downgrade n (bit_and n 6))) (reader R ok b o t x)

    soft : RowLaws R → (x : R.Denot) (n : ℕ) → n < 2 ^ 64 → (p : Phase R.Denot) → ⟦ st n p ⟧ ∗ ⟦ whole_round R ok b o t x ⟧ ⊢ upd 𝓤 (⟦ St (bit_and n 6) ⟧ ∗ ⟦ Softened x n ⟧)
    soft L x n fits (shared c y) = qed 𝓛 (‵ (st n (shared c y)) ∷ ‵ (whole_round R ok b o t x) ∷ []) ∵ fsplit3 ! $ move ! (2 ∷ []) $ fsplit ! $ move ! (4 ∷ []) $ fsplit ! $ keep ! (0 ∷ 2 ∷ []) $ by ! (out_once 𝓛 t.lent (⟦ St (bit_and n 6) ⟧ ∗ ⟦ Softened x n ⟧))
    soft L x n fits away = let w : ℕ = bit_and n 6 in let Z : SProp 𝓤 = ⟦ St w ⟧ ∗ ⟦ Softened x n ⟧ in qed 𝓛 (‵ (st n away) ∷ ‵ (whole_round R ok b o t x) ∷ []) ∵
        fsplit ! $ fpick ! (λ h. drop ! $ let one : count w ≡ 1 = one_left n fits h in fpick ! (λ c. move ! (1 ∷ []) $ fsplit ! $ move ! (1 ∷ []) $ fpick ! (λ a. fsplit ! $ move ! (3 ∷ []) $
        -- [the name; the token; the round; out]
        use1 𝓛 (raw (upd 𝓤 ⟦ names t.round full_share a ⟧)) (renames 𝓛 t.round c a) $ settle 𝓛 Z (‵ (names t.round full_share a)) $
        move ! (1 ∷ 0 ∷ []) $ fjoin ! $ use1 𝓛 (‵ (parts t.round a (2 ^ 63))) (parts_in 𝓛 t.round a (2 ^ 63) full_share (Counts-all 63)) $
        use1 𝓛 (‵ (parts t.round a 1) ⊛ ‵ (parts t.round a (2 ^ 63 - 1))) (parts_cut 𝓛 t.round a (2 ^ 63) 1 (2 ^ 63 - 1) (omega arith) (omega arith) (omega arith) (omega arith)) $ split ! $
        -- [a reader's part; the rest; the round; out]
        move ! (2 ∷ []) $ fsplit3 ! $ move ! (1 ∷ []) $ use1 𝓛 (‵ (seen R ok b o x (a ∷ α)) ⊛ ‵ (seen R ok b o x (a ∷ α))) (contraction 𝓛 (seen R ok b o x) (seen_laws R ok L b o x) (a ∷ α)) $ split ! $
        -- [seen; seen; the observation; waits; the part; the rest; out]
        move ! (4 ∷ 0 ∷ []) $ fjoin ! $ fpack ! ℕ (λ u. fsep (parts t.round u 1) (seen R ok b o x (u ∷ α))) a $ nothing ! $ fpack ! (Steps Downgrade n w) (λ _. ftrue) (downgrades n fits h) $ fjoin ! $ move ! (2 ∷ 1 ∷ 3 ∷ []) $ fjoin3 ! $ move ! (2 ∷ 3 ∷ 0 ∷ []) $
        rewrite ! 0 (λ (k : ℕ). ‵ (parts t.round a (2 ^ 63 - k))) (sym one) refl $ fjoin3 ! $ nothing ! $ fpack ! (count w ≤ most) (λ _. ftrue) (omega arith) $ fjoin ! $ keep ! (0 ∷ 1 ∷ []) $ by ! (ends_as w (shared a x) (Softened x n)))))

    pub softens : RowLaws R → (x : R.Denot) → A.inv (fbor α I) ∗ (A.lft α q ∗ ⟦ whole_round R ok b o t x ⟧) ⊢ asks 𝓛 (block_ptr b (o + 0)) (λ n. bit_and n 6) always (λ n. fsep (flft α q) (Softened x n))
    softens L x = opened (λ n. bit_and n 6) (Softened x) (whole_round R ok b o t x) (λ n fits. soft L x n fits)

    module _ (L : RowLaws R) (old new : ℕ) (asked : IsCounted old new) where
      -- a right and a value are what the step that found n gained
      abbrev pub IsGain : ℕ → ℕ × R.Denot → Type 0
      IsGain n s = (n ≡ old → Gains new s.0) × (n ≢ old → s.0 ≡ 0) × (0 < s.0 → ok s.1)

      abbrev pub gained : ℕ → ℕ × R.Denot → Fml
      gained n s = fsep (fact (IsGain n s)) (gain_of R ok b o t s.0 s.1)

      abbrev pub Gained : ℕ → Fml
      Gained n = fex (ℕ × R.Denot) (gained n)

      ends_with : (n w : ℕ) (p : Phase R.Denot) (s : ℕ × R.Denot) → IsGain n s → ⟦ st w p ⟧ ∗ ⟦ gain_of R ok b o t s.0 s.1 ⟧ ⊢ upd 𝓤 (⟦ St w ⟧ ∗ ⟦ Gained n ⟧)
      ends_with n w p s g = qed 𝓛 (‵ (st w p) ∷ ‵ (gain_of R ok b o t s.0 s.1) ∷ []) ∵ move ! (1 ∷ []) $ nothing ! $ fpack ! (IsGain n s) (λ _. ftrue) g $ fjoin ! $
          fpack ! (ℕ × R.Denot) (gained n) s $ move ! (1 ∷ 0 ∷ []) $ by ! (ends_as w p (Gained n))

      hit : (p : Phase R.Denot) → ⟦ st old p ⟧ ∗ ⟦ ftrue ⟧ ⊢ upd 𝓤 (⟦ St new ⟧ ∗ ⟦ Gained old ⟧)
      hit away = qed 𝓛 (‵ (st old away) ∷ ‵ ftrue ∷ []) ∵ fsplit ! $ fpick ! (λ h. absurd (dite (dec_le (count new) most) (λ low. let e = asked.1 low in omega arith) (λ high. let e = asked.0 (omega arith) in omega arith)))
      hit (shared a x) = let κ : Lft = a ∷ α in let V : Fml = seen R ok b o x κ in qed 𝓛 (‵ (st old (shared a x)) ∷ ‵ ftrue ∷ []) ∵ fsplit3 ! $ fpick ! (λ h. drop ! $ move ! (1 ∷ []) $ fsplit ! $ move ! (1 ∷ []) $ fsplit3 ! $ move ! (1 ∷ []) $
          use1 𝓛 (given (ok x) (‵ V)) (seen_fits 𝓛 R ok b o x κ) $ learn ! (λ fits.
          -- [seen; the observation; waits; out; the parts]
          dite (dec_le (count new) most)
          (λ low. let one : count new ≡ count old + 1 = asked.1 low in
          use1 𝓛 (‵ V ⊛ ‵ V) (contraction 𝓛 (seen R ok b o x) (seen_laws R ok L b o x) κ) $ split ! $ move ! (5 ∷ []) $
          use1 𝓛 (‵ (parts t.round a 1) ⊛ ‵ (parts t.round a (2 ^ 63 - count new))) (parts_cut 𝓛 t.round a (2 ^ 63 - count old) 1 (2 ^ 63 - count new) (omega arith) (omega arith) (omega arith) (omega arith)) $ split ! $
          -- [a reader's part; the rest; seen; seen; the observation; waits; out]
          move ! (0 ∷ 2 ∷ []) $ fjoin ! $ fpack ! ℕ (λ u. fsep (parts t.round u 1) (seen R ok b o x (u ∷ α))) a $ move ! (3 ∷ 2 ∷ 4 ∷ []) $ fjoin3 ! $ move ! (3 ∷ 0 ∷ []) $ fjoin ! $ move ! (2 ∷ 0 ∷ []) $ fjoin ! $
          nothing ! $ fpack ! (count new ≤ most) (λ _. ftrue) low $ fjoin ! $ keep ! (0 ∷ 1 ∷ []) $
          by ! (ends_with old new (shared a x) (1, x) ((λ _. ((λ z. absurd (omega arith)), (λ _. refl))), (λ z. absurd (z refl)), (λ _. fits))))
          (λ high. let nobody : count old ≡ 0 = asked.0 (omega arith) in move ! (4 ∷ []) $ rewrite ! 0 (λ (k : ℕ). ‵ (parts t.round a (2 ^ 63 - k))) nobody refl $
          use1 𝓛 (‵ (share t.round a full_share)) (parts_whole 𝓛 t.round a) $ fsplit ! $
          -- [the token; the name; seen; the observation; waits; out]
          move ! (3 ∷ 2 ∷ 4 ∷ []) $ fjoin3 ! $ move ! (1 ∷ 0 ∷ []) $ fjoin ! $ fpack ! ℕ (begun R ok b o t x) a $ move ! (2 ∷ 0 ∷ []) $ fjoin ! $
          -- [what a writer has; the name]
          move ! (1 ∷ []) $ fpack ! ℕ (names t.round full_share) a $
          nothing ! $ fpack ! (most < count new) (λ _. ftrue) (omega arith) $ fjoin ! $ keep ! (0 ∷ 1 ∷ []) $ by ! (ends_with old new away (2, x) ((λ _. ((λ _. refl), (λ l. absurd (high l)))), (λ z. absurd (z refl)), (λ _. fits))))))

      pub takes : A.inv (fbor α I) ∗ (A.lft α q ∗ ⟦ ftrue ⟧) ⊢ asks 𝓛 (block_ptr b (o + 0)) (λ n. either (eqb n old) new n) always (λ n. fsep (flft α q) (Gained n))
      takes = opened (λ n. either (eqb n old) new n) Gained ftrue (λ n _ p. let F : Bool → Type 1 = λ y. ⟦ st n p ⟧ ∗ ⟦ ftrue ⟧ ⊢ upd 𝓤 (⟦ St (either y new n) ⟧ ∗ ⟦ Gained n ⟧) in dite (ℕ_discrete n old)
          (λ e. subst F (sym (eq-eqb n old e)) (subst (λ (k : ℕ). ⟦ st k p ⟧ ∗ ⟦ ftrue ⟧ ⊢ upd 𝓤 (⟦ St new ⟧ ∗ ⟦ Gained k ⟧)) (sym e) (hit p)))
          (λ miss. subst F (sym (ne_eqb n old miss)) (ends_with n n p (0, t.first) ((λ e. absurd (miss e)), (λ _. refl), (λ z. absurd (omega arith))))))
