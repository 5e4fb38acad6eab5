-- A `&` to a lock is made of a borrow of it, whatever the word holds. Assumes `Logic`.
use Rattle.dash_shard.proofs.Locks.Walking.{[], ◌++◌, ◌≡◌, ℕ, ◌+◌, ◌-◌, ◌^◌, ◌<◌, ◌≤◌, List, ◌∷◌, sym, subst, refl, arith, dite, ℕ_discrete, dec_le, Ura, Ty, full_share, Counts-all, gnum, SProp, ex, emp, upd_i, via, apply∗, id⊢, Lft, GName, Share, Incl, Fml, ftrue, fsep, fseps, fex, fwand, fupd, fdead, fbor, flft, finv, fobs, Incl-refl, Incl-trans, before, meet_⊑_left, Toks, span, Logic, lfts, ‵, raw, ◌⊛◌, some, later, ◌$◌, ◌∵◌, !, qed, move, keep, group, use0, use1, use2, split, split3, fsplit, fsplit3, fjoin, fjoin3, fpick, fpack, pick, assume, suffices, await, updating, now, rewrite, done, bor_open, obor_alter, name_new, one_token, out, before-Incl, basic, own_new, RattleType, Lawful, block_ptr, nothing, Shares, ends, some_shr_laws, beside_shr_laws, ends_shr_laws, always_shr_laws, layout, Laws, Member, row_of, Law, word, by_one}
use Rattle.dash_shard.proofs.Locks.Words.{words}
use base.Share
use denote.Sharing.{always}
use Rattle.dash_shard.specs.LockState.{most}
use Rattle.dash_shard.specs.inner.Locks.Holding.{count, rounds, names, parts, Fixed, Phase, away, shared, cell, begun, state, State, Inv, kept, lock_shares}
use Rattle.dash_shard.specs.declared.lock.tagged.Tagged.{Ghosts}
use Rattle.dash_shard.specs.contracts.lock.cell.Cell as C
use Rattle.dash_shard.proofs.lock.cell.Cell.TheLaw.Statement.{statement}
use Rattle.dash_shard.proofs.Locks.RoundParts.{parts_in, parts_cut}
use Rattle.dash_shard.proofs.Locks.Rounds.{fresh}
use Rattle.dash_shard.proofs.Locks.LockBorrows.{Cut, cut}

module _ {M : Type 1} {𝓤 : Ura M} (𝓛 : Logic 𝓤) (R : RattleType) (ok : R.Denot → Type 0) (b o : ℕ) (κ : Lft) where
  open 𝓛 use {H, A}
  open words 𝓛 use {◌⊢◌, ◌∗◌, ◌-∗◌, ⟦◌⟧}

  abbrev Word : Fml
  Word = fex ℕ (word b (o + 0))

  module _ (x : R.Denot) (γ δ ε : GName) where
    abbrev t : (Fixed R.Denot)
    t = record { life = κ; round = γ; lent = δ; track = ε; first = x }

    abbrev I : Fml
    I = Inv R ok b o t

    word_back : emp 𝓤 ⊢ ⟦ fwand (fsep (fdead κ) (fseps (I ∷ []))) (fupd Word) ⟧
    unfolding fseps
    word_back = qed 𝓛 [] ∵ assume ! (‵ (fsep (fdead κ) (fsep I ftrue))) $ suffices ! ⟦ Word ⟧ (upd_i 𝓤 ⟦ Word ⟧) $ fsplit3 ! $ keep ! (1 ∷ []) $ fpick ! (λ n. fsplit ! $ keep ! (0 ∷ []) $ fpack ! ℕ (word b (o + 0)) n $ done !)

    -- the parts that a leaked hold may have are dropped
    kept_parts : (a n : ℕ) → count n ≤ most → ⟦ parts γ a (2 ^ 63) ⟧ ⊢ ⟦ parts γ a (2 ^ 63 - count n) ⟧
    kept_parts a n low = dite (ℕ_discrete (count n) 0)
        (λ z. qed 𝓛 (‵ (parts γ a (2 ^ 63)) ∷ []) ∵ rewrite ! 0 (λ (k : ℕ). ‵ (parts γ a (2 ^ 63 - k))) (sym z) refl $ done !)
        (λ z. qed 𝓛 (‵ (parts γ a (2 ^ 63)) ∷ []) ∵ use1 𝓛 (‵ (parts γ a (count n)) ⊛ ‵ (parts γ a (2 ^ 63 - count n))) (parts_cut 𝓛 γ a (2 ^ 63) (count n) (2 ^ 63 - count n) (omega arith) (omega arith) (omega arith) (omega arith)) $
        split ! $ keep ! (1 ∷ []) $ done !)

    starts : (a n : ℕ) → ⟦ names γ full_share a ⟧ ∗ ⟦ out δ ⟧ ∗ ⟦ begun R ok b o t x a ⟧ ⊢ ⟦ State R ok b o t n ⟧
    starts a n = dite (dec_le (count n) most)
        (λ low. qed 𝓛 (‵ (names γ full_share a) ∷ ‵ (out δ) ∷ ‵ (begun R ok b o t x a) ∷ []) ∵ move ! (2 ∷ []) $ fsplit ! $ move ! (0 ∷ 2 ∷ []) $ fjoin ! $ use1 𝓛 (‵ (parts γ a (2 ^ 63))) (parts_in 𝓛 γ a (2 ^ 63) full_share (Counts-all 63)) $
        use1 𝓛 (‵ (parts γ a (2 ^ 63 - count n))) (kept_parts a n low) $ move ! (0 ∷ 2 ∷ 1 ∷ []) $ fjoin3 ! $ nothing ! $ fpack ! (count n ≤ most) (λ _. ftrue) low $ fjoin ! $ fpack ! (Phase R.Denot) (state R ok b o t n) (shared a x) $ done !)
        (λ high. qed 𝓛 (‵ (names γ full_share a) ∷ ‵ (out δ) ∷ ‵ (begun R ok b o t x a) ∷ []) ∵ keep ! (0 ∷ []) $ fpack ! ℕ (names γ full_share) a $ nothing ! $ fpack ! (most < count n) (λ _. ftrue) (omega arith) $ fjoin ! $
        fpack ! (Phase R.Denot) (state R ok b o t n) away $ done !)

    abbrev Given : ℕ → SProp 𝓤
    Given a = A.bor κ Word ∗ ⟦ names γ full_share a ⟧ ∗ ⟦ out δ ⟧ ∗ ⟦ begun R ok b o t x a ⟧

    guarded : (a : ℕ) (q : Share) → Given a ∗ A.lft κ q ⊢ H.⇛ (⟦ lock_shares R ok (block_ptr b o) κ ⟧ ∗ A.lft κ q)
    unfolding fseps
    guarded a q = qed 𝓛 ((‵ (fbor κ Word) ⊛ ‵ (names γ full_share a) ⊛ ‵ (out δ) ⊛ ‵ (begun R ok b o t x a)) ∷ ‵ (flft κ q) ∷ []) ∵ updating ! $ split ! $ move ! (0 ∷ 2 ∷ []) $ bor_open ! tt $ move ! (1 ∷ []) $ fpick ! (λ n. move ! (2 ∷ []) $
        use1 𝓛 (‵ (State R ok b o t n)) (starts a n) $ move ! (1 ∷ 0 ∷ []) $ fjoin ! $ fpack ! ℕ (λ w. fsep (word b (o + 0) w) (State R ok b o t w)) n $
        nothing ! $ move ! (1 ∷ 0 ∷ []) $ fjoin ! $ use0 𝓛 (‵ (fwand (fsep (fdead κ) (fseps (I ∷ []))) (fupd Word))) word_back $ move ! (2 ∷ 1 ∷ 0 ∷ []) $ obor_alter ! tt (I ∷ []) $
        use1 𝓛 (‵ (fbor κ I) ⊛ ‵ ftrue) (id⊢ 𝓤 _) $ split ! $ use1 𝓛 (later (‵ (finv (fbor κ I)))) (𝓛.invs.inv_new (fbor κ I)) $ await ! tt $
        use0 𝓛 (‵ (before κ κ)) (before-Incl 𝓛 κ κ (Incl-refl κ)) $ fjoin ! $ fpack ! (Fixed R.Denot) (λ s. kept R ok b o s κ) t $ now ! $ keep ! (0 ∷ 2 ∷ []) $ done !)

  named : (a : ℕ) → emp 𝓤 ⊢ H.⇛ (ex 𝓤 (λ (γ : GName). ⟦ names γ full_share a ⟧))
  named a = via 𝓤 _ (own_new 𝓛 rounds (full_share, a)) (basic 𝓛 (ex 𝓤 (λ (γ : GName). ⟦ names γ full_share a ⟧)))

  -- P is what is cut into the borrows of the word and of the value
  made : (P : Fml) → ((q : Share) → A.bor κ P ∗ A.lft κ q ⊢ H.⇛ (ex 𝓤 (Cut 𝓛 R ok b o κ) ∗ A.lft κ q)) → (l : Lft) → Shares 𝓛 R l → (ts : Toks) → Incl (span ts) l → Incl (span ts) κ
      → A.bor κ P ∗ lfts 𝓛 ts ⊢ H.⇛ (⟦ lock_shares R ok (block_ptr b o) κ ⟧ ∗ lfts 𝓛 ts)
  made P cuts l shares ts inc sp = let μ : Lft = span ts in
      qed 𝓛 (‵ (fbor κ P) ∷ raw (lfts 𝓛 ts) ∷ []) ∵ updating ! $ use2 𝓛 (later (some (λ (u : GName × R.Denot). ‵ (fbor κ Word) ⊛ ‵ (fbor κ (cell R ok b o u.0)) ⊛ ‵ (fobs u.0 (R.coded.code u.1))) ⊛ raw (lfts 𝓛 ts))) (by_one 𝓛 κ ts sp (A.bor κ P) (ex 𝓤 (Cut 𝓛 R ok b o κ)) cuts) $
      await ! tt $ split ! $ pick ! (λ u. split3 ! $ name_new ! tt (gnum 0) (λ δ. let t : Fixed R.Denot = record { life = κ; round = 0; lent = δ; track = u.0; first = u.1 } in fjoin ! $
      -- [out; the word; the value; the observation; the tokens]
      move ! (4 ∷ []) $ use1 𝓛 (some (λ (q : Share). ‵ (flft μ q) ⊛ raw (A.lft μ q -∗ lfts 𝓛 ts))) (one_token 𝓛 ts) $ pick ! (λ q. split ! $ use1 𝓛 (‵ (flft μ (Share.left q)) ⊛ ‵ (flft μ (Share.right q))) (𝓛.lfts.lft_split μ q) $ split ! $
      -- [left; right; the way back; out; the word; the value; the observation]
      move ! (6 ∷ 5 ∷ 0 ∷ 1 ∷ []) $ group ! 4 $ use1 𝓛 (later (some (λ (a : ℕ). ‵ (begun R ok b o t u.1 a)) ⊛ ‵ (flft μ (Share.left q)) ⊛ ‵ (flft μ (Share.right q)))) (fresh 𝓛 R ok b o t l shares u.1 μ (Share.left q) μ (Share.right q) sp inc) $
      await ! tt $ split ! $ pick ! (λ a. move ! (1 ∷ []) $ split ! $ use2 𝓛 (‵ (flft μ q)) (𝓛.lfts.lft_join μ q) $ move ! (0 ∷ 2 ∷ []) $ use2 𝓛 (raw (lfts 𝓛 ts)) (apply∗ 𝓤 (A.lft μ q) (lfts 𝓛 ts)) $
      -- [the tokens; the round; out; the word]
      use0 𝓛 (later (some (λ (γ : GName). ‵ (names γ full_share a)))) (named a) $ await ! tt $ pick ! (λ γ. move ! (4 ∷ 0 ∷ 3 ∷ 2 ∷ []) $ group ! 4 $
      use2 𝓛 (later (‵ (lock_shares R ok (block_ptr b o) κ) ⊛ raw (lfts 𝓛 ts))) (by_one 𝓛 κ ts sp (Given u.1 γ δ u.0 a) ⟦ lock_shares R ok (block_ptr b o) κ ⟧ (guarded u.1 γ δ u.0 a)) $ await ! tt $ now ! $ done !)))))

pub shares : (T G : RattleType) (g : Ghosts T.Denot G.Denot) (L : Laws T) (K : Laws G) → statement T G g L K
shares T G g L K = let m : Member = record { row = T; ty = layout T } in
    let same : T ≡ row_of m = λ i. record { Denot = T.Denot; mir = L.one i; written = T.written; reaches = T.reaches; lives = T.lives; own_val = T.own_val; exit = T.exit; coded = T.coded; shr_at = T.shr_at } in
    subst (λ (τ : List Ty). Law (C.the_written (record T { mir = τ }) G g)) (sym L.one) (record {
      shr_laws = λ d b o. some_shr_laws (Fixed (row_of m).Denot) (kept (row_of m) (g.fits d) b o) (λ t. beside_shr_laws (ends t.life) (always (fbor t.life (Inv (row_of m) (g.fits d) b o t))) (ends_shr_laws t.life) (always_shr_laws (fbor t.life (Inv (row_of m) (g.fits d) b o t))));
      shares = λ M 𝓤 𝓛 d κ ts b o inc sp. made 𝓛 (row_of m) (g.fits d) b o κ _ (cut 𝓛 m G g d (subst (Lawful 𝓛) same (L.lawful 𝓛)) b o κ) T.lives (subst (λ (R : RattleType). Shares 𝓛 R T.lives) same (L.shares 𝓛)) ts
          (Incl-trans inc (Incl-trans (meet_⊑_left (T.lives ++ (G.lives ++ [])) _) (meet_⊑_left T.lives (G.lives ++ [])))) sp;
    })
