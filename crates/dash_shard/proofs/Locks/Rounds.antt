-- A round begins and ends, and a hold lends what it sees. Assumes `Logic`.
use Rattle.dash_shard.proofs.Locks.Walking.{[], ◌++◌, ℕ, zero, suc, ◌+◌, ◌∷◌, refl, sym, Ura, full_share, apply∗, guard, guard_i, SProp, ex, upd_i, id⊢, Lft, GName, Share, Incl, Incl-trans, Fml, ftrue, ffalse, fsep, fseps, fex, fwand, fupd, fdead, fbor, flft, fobs, fauth, before, meet_⊑_left, meet_⊑_right, ⊑_meet, Toks, span, Logic, lfts, given, learn, ‵, raw, ◌⊛◌, some, later, ◌$◌, ◌∵◌, !, qed, by, move, keep, drop, use1, use2, use3, split, split3, group, fsplit, fsplit3, fjoin, fjoin3, fpick, fpack, pick, show, check, frame, assume, suffices, await, updating, now, rewrite, join, done, lft_new, lft_end, lent_back, bor_open, obor_close, obor_alter, bor_fracture, name_agree, before_dup, before_shorten, RattleType, RowLaws, part_at, shared_of, moves, moves_before, Ptr, block_ptr, null_ptr, Shares, ShrLaws, said, beside_shr_laws, contraction, shortens, nothing_shr_laws, said_shr_laws, within_shr_laws, nothing, Lends, Lends-false, Lends-nothing, by_one}
use Rattle.dash_shard.proofs.Locks.Words.{words}
use denote.Sharing.{within}
use base.Share
use Rattle.core.proofs.cell.Borrows.{unnest_before}
use Rattle.dash_shard.specs.inner.Locks.Holding.{fact, parts, Fixed, offset, at_home, cell, seen, waits, kept, reader, begun, whole_round, gain_of, writer, right_to, hold_owns, hold_shares}
use Rattle.dash_shard.proofs.Locks.RoundParts.{parts_in}

pub seen_laws : (R : RattleType) (ok : R.Denot → Type 0) → RowLaws R → (b o : ℕ) (x : R.Denot) → ShrLaws (seen R ok b o x)
seen_laws R ok L b o x = beside_shr_laws (said (fact (ok x))) (shared_of R x b (o + offset R)) (said_shr_laws (fact (ok x)) (λ _. tt)) (L x b (o + offset R))

pub hold_laws : (β : Lft) (R : RattleType) (ok : R.Denot → Type 0) → RowLaws R → (p : Ptr) (right : ℕ) (x : R.Denot) → ShrLaws (hold_shares β R ok p right x)
hold_laws β R ok L null_ptr right x = said_shr_laws ffalse tt
hold_laws β R ok L (block_ptr b o) zero x = nothing_shr_laws
hold_laws β R ok L (block_ptr b o) (suc k) x = within_shr_laws β (seen R ok b o x) (seen_laws R ok L b o x)

module _ {M : Type 1} {𝓤 : Ura M} (𝓛 : Logic 𝓤) where
  open 𝓛 use {H, A}
  open words 𝓛 use {◌⊢◌, ◌∗◌, ◌-∗◌, ⟦◌⟧}

  module _ (R : RattleType) (ok : R.Denot → Type 0) (b o : ℕ) where
    abbrev At : R.Denot → Fml
    At x = part_at R full_share x b (o + offset R)

    abbrev Ob : GName → R.Denot → Fml
    Ob ε x = fobs ε (R.coded.code x)

    packs : (ε : GName) (κ : Lft) (x : R.Denot) → ok x → ⟦ fauth ε (R.coded.code x) ⟧ ⊢ ⟦ fwand (fsep (fdead κ) (fseps (At x ∷ []))) (fupd (cell R ok b o ε)) ⟧
    unfolding fseps
    packs ε κ x h = let C : Fml = cell R ok b o ε in qed 𝓛 (‵ (fauth ε (R.coded.code x)) ∷ []) ∵ assume ! (‵ (fsep (fdead κ) (fsep (At x) ftrue))) $ suffices ! ⟦ C ⟧ (upd_i 𝓤 ⟦ C ⟧) $ fsplit3 ! $ keep ! (1 ∷ 3 ∷ []) $
        nothing ! $ fpack ! (ok x) (λ _. ftrue) h $ move ! (1 ∷ 0 ∷ []) $ fjoin ! $ fjoin ! $ fpack ! R.Denot (at_home R ok b o ε) x $ done !

    pub seen_fits : (x : R.Denot) (κ : Lft) → ⟦ seen R ok b o x κ ⟧ ⊢ guard 𝓤 (ok x) ⟦ seen R ok b o x κ ⟧
    seen_fits x κ = qed 𝓛 (‵ (seen R ok b o x κ) ∷ []) ∵ fsplit ! $ fpick ! (λ fits. drop ! $ check ! fits $ nothing ! $ fpack ! (ok x) (λ _. ftrue) fits $ fjoin ! $ done !)

    pub value_at : (ε : GName) (x : R.Denot) (κ : Lft) (q : Share) → (⟦ Ob ε x ⟧ ∗ A.bor κ (cell R ok b o ε)) ∗ A.lft κ q ⊢ H.⇛ (guard 𝓤 (ok x) (⟦ Ob ε x ⟧ ∗ A.bor κ (At x)) ∗ A.lft κ q)
    unfolding fseps
    value_at ε x κ q = let C : Fml = cell R ok b o ε in let Z : SProp 𝓤 = ⟦ Ob ε x ⟧ ∗ A.bor κ (At x) in
        qed 𝓛 ((‵ (Ob ε x) ⊛ ‵ (fbor κ C)) ∷ ‵ (flft κ q) ∷ []) ∵ updating ! $ split ! $ move ! (1 ∷ 2 ∷ []) $ bor_open ! tt $ move ! (1 ∷ []) $ fpick ! (λ y. fsplit ! $ fsplit ! $ move ! (1 ∷ []) $ fpick ! (λ h. drop ! $
        move ! (3 ∷ 1 ∷ []) $ name_agree ! R.coded (λ same. rewrite ! 1 (λ (z : R.Denot). ‵ (fauth ε (R.coded.code z))) (sym same) refl $ rewrite ! 2 (λ (z : R.Denot). ‵ (At z)) (sym same) refl $
        let h' : ok x = mathlib.Core.Path.subst ok (sym same) h in move ! (1 ∷ []) $ use1 𝓛 (‵ (fwand (fsep (fdead κ) (fseps (At x ∷ []))) (fupd C))) (packs ε κ x h') $
        move ! (2 ∷ []) $ nothing ! $ move ! (1 ∷ 0 ∷ []) $ fjoin ! $ move ! (3 ∷ 0 ∷ 1 ∷ []) $ obor_alter ! tt (At x ∷ []) $
        use1 𝓛 (‵ (fbor κ (At x)) ⊛ ‵ ftrue) (id⊢ 𝓤 _) $ split ! $ move ! (3 ∷ 0 ∷ []) $ join ! $ use1 𝓛 (raw (guard 𝓤 (ok x) Z)) (guard_i 𝓤 (ok x) Z h') $ now ! $ keep ! (0 ∷ 2 ∷ []) $ done !)))

    module _ (t : Fixed R.Denot) where
      abbrev α : Lft
      α = t.life

      abbrev ε : GName
      ε = t.track

      abbrev C : Fml
      C = cell R ok b o ε

      pub fresh : (l : Lft) → Shares 𝓛 R l → (x : R.Denot) (μ : Lft) (s : Share) (τ : Lft) (r : Share) → Incl μ α → Incl τ l
          → ⟦ Ob ε x ⟧ ∗ A.bor α C ∗ A.lft μ s ∗ A.lft τ r ⊢ H.⇛ (⟦ fex ℕ (begun R ok b o t x) ⟧ ∗ A.lft μ s ∗ A.lft τ r)
      fresh l shares x μ s τ r i j = let e : ℕ = o + offset R in
          qed 𝓛 (‵ (Ob ε x) ∷ ‵ (fbor α C) ∷ ‵ (flft μ s) ∷ ‵ (flft τ r) ∷ []) ∵ updating ! $ lft_new ! tt (λ a.
          let ts : Toks = (a ∷ [], full_share) ∷ (μ, s) ∷ (τ, r) ∷ [] in let more : Lft = μ ++ τ in
          let sp : Incl (span ts) (a ∷ α) = ⊑_meet (a ∷ more) (a ∷ []) α (meet_⊑_left (a ∷ []) more) (Incl-trans (meet_⊑_right (a ∷ []) more) (Incl-trans (meet_⊑_left μ τ) i)) in
          move ! (2 ∷ []) $ use1 𝓛 (later (‵ (fbor (a ∷ α) C) ⊛ ‵ (waits R ok b o t a))) (𝓛.more.bor_reborrow α (a ∷ α) C (meet_⊑_right (a ∷ []) α)) $ await ! tt $ split ! $
          -- [the reborrow; waits; a; the observation; μ; τ]
          move ! (3 ∷ 0 ∷ []) $ join ! $ move ! (2 ∷ 3 ∷ 4 ∷ []) $ group ! 3 $ move ! (1 ∷ 0 ∷ []) $
          use2 𝓛 (later (given (ok x) (‵ (Ob ε x) ⊛ ‵ (fbor (a ∷ α) (At x))) ⊛ raw (lfts 𝓛 ts))) (by_one 𝓛 (a ∷ α) ts sp (⟦ Ob ε x ⟧ ∗ A.bor (a ∷ α) C) (guard 𝓤 (ok x) (⟦ Ob ε x ⟧ ∗ A.bor (a ∷ α) (At x))) (value_at ε x (a ∷ α))) $ await ! tt $ split ! $ learn ! (λ h. split ! $
          move ! (1 ∷ 2 ∷ []) $
          use2 𝓛 (later (‵ (shared_of R x b e (a ∷ α)) ⊛ ‵ (flft (a ∷ []) full_share) ⊛ ‵ (flft μ s) ⊛ ‵ (flft τ r))) (shares x (a ∷ α) ts b e (Incl-trans (meet_⊑_right (a ∷ []) more) (Incl-trans (meet_⊑_right μ τ) j)) sp) $ await ! tt $ split3 ! $ move ! (2 ∷ []) $ split ! $
          -- [μ; τ; what is seen; a; the observation; waits]
          move ! (2 ∷ []) $ nothing ! $ fpack ! (ok x) (λ _. ftrue) h $ fjoin ! $ move ! (4 ∷ 0 ∷ 5 ∷ []) $ fjoin3 ! $ move ! (3 ∷ 0 ∷ []) $ fjoin ! $ fpack ! ℕ (begun R ok b o t x) a $ now ! $ done !))

      pub ended : (a : ℕ) → A.lft (a ∷ []) full_share ∗ ⟦ waits R ok b o t a ⟧ ⊢ H.⇛ (A.bor α C)
      ended a = qed 𝓛 (‵ (flft (a ∷ []) full_share) ∷ ‵ (waits R ok b o t a) ∷ []) ∵ updating ! $ lft_end ! tt $
          use1 𝓛 (‵ (fdead (a ∷ α))) (𝓛.lfts.dead-incl (a ∷ α) (a ∷ []) (meet_⊑_left (a ∷ []) α)) $ lent_back ! tt $ now ! $ done !

      -- what a take gained becomes a hold's: a writer's round ends
      pub settled : (k : ℕ) (x : R.Denot) → ⟦ gain_of R ok b o t k x ⟧ ⊢ H.⇛ ⟦ right_to R ok b o t k x ⟧
      settled zero x = qed 𝓛 (‵ ftrue ∷ []) ∵ updating ! $ now ! $ done !
      settled (suc zero) x = qed 𝓛 (‵ (reader R ok b o t x) ∷ []) ∵ updating ! $ now ! $ done !
      settled (suc (suc k)) x = qed 𝓛 (‵ (whole_round R ok b o t x) ∷ []) ∵ updating ! $ fsplit ! $ move ! (1 ∷ []) $ fpick ! (λ a. fsplit ! $ move ! (1 ∷ []) $ fsplit3 ! $
          -- [the observation; seen; waits; the token; out]
          move ! (3 ∷ 2 ∷ []) $ use2 𝓛 (later (‵ (fbor α C))) (ended a) $ await ! tt $ move ! (1 ∷ 0 ∷ []) $ fjoin ! $ move ! (2 ∷ 0 ∷ []) $ fjoin ! $ now ! $ keep ! (0 ∷ []) $ done !)

    module _ (L : RowLaws R) (x : R.Denot) (ν β : Lft) (inc : Incl ν β) (P : Fml) where
      -- β outlasts the lock's lifetime u.0, and some of the token of u.1 is what P is lent by
      abbrev pub Gives : Lft × ℕ × Share → SProp 𝓤
      Gives u = ⟦ before β u.0 ⟧ ∗ ⟦ seen R ok b o x (u.1 ∷ u.0) ⟧ ∗ A.lft (u.1 ∷ []) u.2 ∗ (A.lft (u.1 ∷ []) u.2 -∗ ⟦ P ⟧)

      again : (u : Lft × ℕ × Share) → (A.lft (u.1 ∷ []) u.2 -∗ ⟦ P ⟧) ⊢ ⟦ fwand (fsep (fdead ν) (fseps (flft (u.1 ∷ []) u.2 ∷ []))) (fupd P) ⟧
      unfolding fseps
      again u = qed 𝓛 (raw (A.lft (u.1 ∷ []) u.2 -∗ ⟦ P ⟧) ∷ []) ∵ assume ! (‵ (fsep (fdead ν) (fsep (flft (u.1 ∷ []) u.2) ftrue))) $ suffices ! ⟦ P ⟧ (upd_i 𝓤 ⟦ P ⟧) $
          fsplit3 ! $ keep ! (1 ∷ 3 ∷ []) $ by ! (apply∗ 𝓤 (A.lft (u.1 ∷ []) u.2) ⟦ P ⟧)

      pub lends_seen : ⟦ P ⟧ ⊢ ex 𝓤 Gives → (q : Share) → A.bor ν P ∗ A.lft ν q ⊢ H.⇛ (⟦ seen R ok b o x ν ⟧ ∗ A.lft ν q)
      unfolding fseps
      lends_seen opens q = qed 𝓛 (‵ (fbor ν P) ∷ ‵ (flft ν q) ∷ []) ∵ updating ! $ bor_open ! tt $ move ! (1 ∷ []) $
          use1 𝓛 (some (λ (u : Lft × ℕ × Share). ‵ (before β u.0) ⊛ ‵ (seen R ok b o x (u.1 ∷ u.0)) ⊛ ‵ (flft (u.1 ∷ []) u.2) ⊛ raw (A.lft (u.1 ∷ []) u.2 -∗ ⟦ P ⟧))) opens $ pick ! (λ u. split3 ! $ move ! (2 ∷ []) $ split ! $
          let a : Lft = u.1 ∷ [] in let α : Lft = u.0 in let μ : Lft = a ++ ν in let V = seen R ok b o x in let K = seen_laws R ok L b o x in move ! (1 ∷ []) $
          use1 𝓛 (‵ (fwand (fsep (fdead ν) (fseps (flft a u.2 ∷ []))) (fupd P))) (again u) $ move ! (1 ∷ []) $ nothing ! $ move ! (1 ∷ 0 ∷ []) $ fjoin ! $
          move ! (4 ∷ 0 ∷ 1 ∷ []) $ obor_alter ! tt (flft a u.2 ∷ []) $ use1 𝓛 (‵ (fbor ν (flft a u.2)) ⊛ ‵ ftrue) (id⊢ 𝓤 _) $ split ! $ bor_fracture ! tt (λ r. flft a r) u.2 $ move ! (4 ∷ []) $
          use1 𝓛 (‵ (V (μ ++ α))) (shortens 𝓛 V K (a ++ α) (μ ++ α) (⊑_meet (μ ++ α) a α (Incl-trans (meet_⊑_left μ α) (meet_⊑_left a ν)) (meet_⊑_right μ α))) $ move ! (4 ∷ []) $
          use1 𝓛 (‵ (before μ α)) (before_shorten 𝓛 β μ α (Incl-trans (meet_⊑_right a ν) inc)) $ use2 𝓛 (‵ (V μ)) (moves_before 𝓛 V K μ α) $ move ! (1 ∷ 0 ∷ []) $
          use2 𝓛 (‵ (V ν)) (moves 𝓛 V K ν a) $ now ! $ keep ! (0 ∷ 2 ∷ []) $ done !)

    module _ (L : RowLaws R) (x : R.Denot) (ν β : Lft) (inc : Incl ν β) where
      abbrev V : Lft → Fml
      V = seen R ok b o x

      reader_opens : let P : Fml = hold_owns β R ok (block_ptr b o) 1 x in ⟦ P ⟧ ⊢ ex 𝓤 (Gives L x ν β inc P)
      reader_opens = let P : Fml = hold_owns β R ok (block_ptr b o) 1 x in qed 𝓛 (‵ P ∷ []) ∵ fpick ! (λ t. fsplit ! $ fsplit ! $ move ! (2 ∷ []) $ fpick ! (λ a. fsplit ! $ fpick ! (λ e. fpick ! (λ c. fsplit ! $
          move ! (2 ∷ []) $ use1 𝓛 (‵ (V (a ∷ t.life)) ⊛ ‵ (V (a ∷ t.life))) (contraction 𝓛 V (seen_laws R ok L b o x) (a ∷ t.life)) $ split ! $ move ! (4 ∷ []) $ use1 𝓛 (‵ (before β t.life) ⊛ ‵ (before β t.life)) (before_dup 𝓛 β t.life) $ split ! $
          show ! (Gives L x ν β inc P) (t.life, a, e) $ frame ! $ move ! (1 ∷ []) $ frame ! $ move ! (2 ∷ []) $ frame ! $ assume ! (‵ (flft (a ∷ []) e)) $
          -- [the token; before; seen; the name; the invariant]
          move ! (0 ∷ 3 ∷ []) $ fjoin ! $ use1 𝓛 (‵ (parts t.round a 1)) (parts_in 𝓛 t.round a 1 e c) $ move ! (0 ∷ 2 ∷ []) $ fjoin ! $ fpack ! ℕ (λ u. fsep (parts t.round u 1) (V (u ∷ t.life))) a $
          move ! (1 ∷ 2 ∷ []) $ fjoin ! $ fjoin ! $ fpack ! (Fixed R.Denot) (λ s. fsep (kept R ok b o s β) (reader R ok b o s x)) t $ done !))))

    -- a hold that tracks the value by a borrow of its own, and is lent
    module _ (x : R.Denot) (β : Lft) (P : Fml) where
      abbrev Cell : GName → Fml
      Cell ε = cell R ok b o ε

      abbrev pub Tracks : Lft × GName → SProp 𝓤
      Tracks u = ⟦ before β u.0 ⟧ ∗ ⟦ Ob u.1 x ⟧ ∗ A.bor u.0 (Cell u.1) ∗ ((⟦ Ob u.1 x ⟧ ∗ A.bor u.0 (Cell u.1)) -∗ ⟦ P ⟧)

      home : (ν : Lft) (u : Lft × GName) → ((⟦ Ob u.1 x ⟧ ∗ A.bor u.0 (Cell u.1)) -∗ ⟦ P ⟧) ⊢ ⟦ fwand (fsep (fdead ν) (fseps (Ob u.1 x ∷ fbor u.0 (Cell u.1) ∷ []))) (fupd P) ⟧
      unfolding fseps
      home ν u = let B : SProp 𝓤 = ⟦ Ob u.1 x ⟧ ∗ A.bor u.0 (Cell u.1) in qed 𝓛 (raw (B -∗ ⟦ P ⟧) ∷ []) ∵ assume ! (‵ (fsep (fdead ν) (fsep (Ob u.1 x) (fsep (fbor u.0 (Cell u.1)) ftrue)))) $ suffices ! ⟦ P ⟧ (upd_i 𝓤 ⟦ P ⟧) $
          fsplit ! $ drop ! $ fsplit3 ! $ join ! $ keep ! (0 ∷ 2 ∷ []) $ by ! (apply∗ 𝓤 B ⟦ P ⟧)

      value_of : ⟦ P ⟧ ⊢ ex 𝓤 Tracks → (ν : Lft) → Incl ν β → (q : Share) → A.bor ν P ∗ A.lft ν q ⊢ H.⇛ (guard 𝓤 (ok x) (A.bor ν (At x)) ∗ A.lft ν q)
      unfolding fseps
      value_of opens ν inc q = qed 𝓛 (‵ (fbor ν P) ∷ ‵ (flft ν q) ∷ []) ∵ updating ! $ bor_open ! tt $ move ! (1 ∷ []) $
          use1 𝓛 (some (λ (u : Lft × GName). ‵ (before β u.0) ⊛ ‵ (Ob u.1 x) ⊛ ‵ (fbor u.0 (Cell u.1)) ⊛ raw ((⟦ Ob u.1 x ⟧ ∗ A.bor u.0 (Cell u.1)) -∗ ⟦ P ⟧))) opens $ pick ! (λ u. split3 ! $ move ! (2 ∷ []) $ split ! $
          let O : Fml = Ob u.1 x in let B : Fml = fbor u.0 (Cell u.1) in move ! (1 ∷ []) $ use1 𝓛 (‵ (fwand (fsep (fdead ν) (fseps (O ∷ B ∷ []))) (fupd P))) (home ν u) $
          -- [the way back; the borrow; before; the observation; open]
          nothing ! $ move ! (4 ∷ 2 ∷ 0 ∷ []) $ fjoin3 ! $ move ! (3 ∷ 0 ∷ 1 ∷ []) $ obor_alter ! tt (O ∷ B ∷ []) $ use1 𝓛 (‵ (fbor ν O) ⊛ ‵ (fbor ν B) ⊛ ‵ ftrue) (id⊢ 𝓤 _) $ split3 ! $
          -- [the observation, lent; the borrow, lent; nothing; the token; before]
          move ! (4 ∷ []) $ use1 𝓛 (‵ (before ν u.0)) (before_shorten 𝓛 β ν u.0 inc) $ keep ! (0 ∷ 2 ∷ 4 ∷ 1 ∷ []) $
          use3 𝓛 (later (‵ (fbor ν (Cell u.1)) ⊛ ‵ (flft ν q))) (unnest_before 𝓛 ν u.0 q (Cell u.1)) $ await ! tt $ split ! $ move ! (1 ∷ []) $
          use1 𝓛 (‵ (flft ν (Share.left q)) ⊛ ‵ (flft ν (Share.right q))) (𝓛.lfts.lft_split ν q) $ split ! $ move ! (3 ∷ 0 ∷ []) $ bor_open ! tt $
          -- [open; the observation; the other half; the cell's borrow]
          move ! (1 ∷ 3 ∷ []) $ join ! $ move ! (0 ∷ 2 ∷ []) $ use2 𝓛 (later (given (ok x) (‵ O ⊛ ‵ (fbor ν (At x))) ⊛ ‵ (flft ν (Share.right q)))) (value_at u.1 x ν (Share.right q)) $ await ! tt $ split ! $ learn ! (λ h. split ! $
          -- [the observation; the value's borrow; the other half; open]
          move ! (3 ∷ 0 ∷ []) $ obor_close ! tt $ drop ! $ move ! (0 ∷ 2 ∷ []) $ use2 𝓛 (‵ (flft ν q)) (𝓛.lfts.lft_join ν q) $ move ! (1 ∷ []) $
          use1 𝓛 (raw (guard 𝓤 (ok x) (A.bor ν (At x)))) (guard_i 𝓤 (ok x) (A.bor ν (At x)) h) $ now ! $ done !))

      pub lent_tracked : (l k : Lft) → Incl l β → Incl l k → Shares 𝓛 R k → ⟦ P ⟧ ⊢ ex 𝓤 Tracks → Lends 𝓛 P (within β (seen R ok b o x)) l
      lent_tracked l k le under shares opens = λ κ ts inc sp. let ν : Lft = κ ++ β in let e : ℕ = o + offset R in let sm : Incl (span ts) ν = ⊑_meet (span ts) κ β sp (Incl-trans inc le) in
          qed 𝓛 (‵ (fbor κ P) ∷ raw (lfts 𝓛 ts) ∷ []) ∵ updating ! $ use1 𝓛 (‵ (fbor ν P)) (𝓛.bors.bor_shorten κ ν P (meet_⊑_left κ β)) $
          use2 𝓛 (later (given (ok x) (‵ (fbor ν (At x))) ⊛ raw (lfts 𝓛 ts))) (by_one 𝓛 ν ts sm (A.bor ν P) (guard 𝓤 (ok x) (A.bor ν (At x))) (value_of opens ν (meet_⊑_right κ β))) $ await ! tt $ split ! $ learn ! (λ h.
          use2 𝓛 (later (‵ (shared_of R x b e ν) ⊛ raw (lfts 𝓛 ts))) (shares x ν ts b e (Incl-trans inc under) sm) $ await ! tt $ split ! $ nothing ! $ fpack ! (ok x) (λ _. ftrue) h $ fjoin ! $ now ! $ done !)

    writer_tracks : (β : Lft) (k : ℕ) (x : R.Denot) → let P : Fml = hold_owns β R ok (block_ptr b o) (suc (suc k)) x in ⟦ P ⟧ ⊢ ex 𝓤 (Tracks x β P)
    writer_tracks β k x = let P : Fml = hold_owns β R ok (block_ptr b o) (suc (suc k)) x in qed 𝓛 (‵ P ∷ []) ∵ fpick ! (λ t. fsplit ! $ fsplit ! $ move ! (2 ∷ []) $ fsplit ! $ move ! (1 ∷ []) $ fsplit ! $
        -- [the observation; the borrow; out; before; the invariant]
        move ! (3 ∷ []) $ use1 𝓛 (‵ (before β t.life) ⊛ ‵ (before β t.life)) (before_dup 𝓛 β t.life) $ split ! $
        show ! (Tracks x β P) (t.life, t.track) $ frame ! $ move ! (1 ∷ []) $ frame ! $ move ! (1 ∷ []) $ frame ! $ assume ! (‵ (Ob t.track x) ⊛ ‵ (fbor t.life (cell R ok b o t.track))) $ split ! $
        -- [the observation; the borrow; before; out; the invariant]
        fjoin ! $ move ! (2 ∷ 0 ∷ []) $ fjoin ! $ move ! (1 ∷ 2 ∷ []) $ fjoin ! $ fjoin ! $ fpack ! (Fixed R.Denot) (λ s. fsep (kept R ok b o s β) (writer R ok b o s x)) t $ done !)

  lent_some : (β : Lft) (R : RattleType) (ok : R.Denot → Type 0) (L : RowLaws R) (l : Lft) → Incl l β → (b o k : ℕ) (x : R.Denot)
      → ((ν : Lft) (inc : Incl ν β) → let P : Fml = hold_owns β R ok (block_ptr b o) (suc k) x in ⟦ P ⟧ ⊢ ex 𝓤 (Gives R ok b o L x ν β inc P)) → Lends 𝓛 (hold_owns β R ok (block_ptr b o) (suc k) x) (within β (seen R ok b o x)) l
  lent_some β R ok L l le b o k x opens = λ κ ts inc sp. let ν : Lft = κ ++ β in let P : Fml = hold_owns β R ok (block_ptr b o) (suc k) x in
      qed 𝓛 (‵ (fbor κ P) ∷ raw (lfts 𝓛 ts) ∷ []) ∵ use1 𝓛 (‵ (fbor ν P)) (𝓛.bors.bor_shorten κ ν P (meet_⊑_left κ β)) $
      by ! (by_one 𝓛 ν ts (⊑_meet (span ts) κ β sp (Incl-trans inc le)) (A.bor ν P) ⟦ seen R ok b o x ν ⟧ (lends_seen R ok b o L x ν β (meet_⊑_right κ β) P (opens ν (meet_⊑_right κ β))))

  pub Lends-hold : (β : Lft) (R : RattleType) (ok : R.Denot → Type 0) → RowLaws R → (l k : Lft) → Incl l β → Incl l k → Shares 𝓛 R k → (p : Ptr) (right : ℕ) (x : R.Denot) → Lends 𝓛 (hold_owns β R ok p right x) (hold_shares β R ok p right x) l
  Lends-hold β R ok L l k le under shares null_ptr right x = Lends-false 𝓛 (hold_shares β R ok null_ptr right x) l
  Lends-hold β R ok L l k le under shares (block_ptr b o) zero x = Lends-nothing 𝓛 (hold_owns β R ok (block_ptr b o) 0 x) l
  Lends-hold β R ok L l k le under shares (block_ptr b o) (suc zero) x = lent_some β R ok L l le b o 0 x (λ ν inc. reader_opens R ok b o L x ν β inc)
  Lends-hold β R ok L l k le under shares (block_ptr b o) (suc (suc n)) x = lent_tracked R ok b o x β (hold_owns β R ok (block_ptr b o) (suc (suc n)) x) l k le under shares (writer_tracks R ok b o β n x)
