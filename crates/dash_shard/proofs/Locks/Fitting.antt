-- A value that has to fit is lent as a `&mut` from behind a borrow that tracks it, for a part of it of which every value fits. Assumes `Logic`.
--     lends_fit     the borrow is opened, and what lies there is lent on for all of κ;  `Owed` is what closes the borrow later
--     shuts_fit     once it is known how the value follows the part, the borrow is closed: whatever is left in the part, the value fits
use Rattle.dash_shard.proofs.Locks.Walking.{[], ◌≡◌, ℕ, List, ◌∷◌, refl, sym, ap, subst, guard, drop, check, Ura, Val, vptr, named, full_share, SProp, ex, all_e, upd_i, apply∗, Lft, GName, Share, Incl-refl, Fml, ftrue, fsep, fseps, fex, feq, fwand, fupd, fdead, fobs, fauth, fbor, flft, flent, Logic, ‵, raw, ◌⊛◌, later, ◌$◌, ◌∵◌, !, qed, move, keep, use0, use1, use2, split, split3, group, fsplit, fsplit3, fjoin, fjoin3, fpick, fpack, show, assume, suffices, await, updating, now, rewrite, feq_i, feq_l, done, bor_open, name_agree, name_new, RattleType, MutRef, part_at, mem, Body, nothing}
use Rattle.dash_shard.proofs.Locks.Words.{words}
use base.Share
use base.Logic.{all}
use ghost.Rules.{aged}
use types.SemTy.{SemTy}
use types.Late.{deep, ages, bor_new_deep, close_deep}
use types.Merge.{dies}
use types.Follow.{follows_anew}
use denote.Ref.{MutBor}
use denote.Bor.{Bor}
use denote.Struct.Tuple.{Tuple}
use Rattle.dash_shard.proofs.Locks.Walking.{ShrRef, Is, Typed, vstruct, of_list, ◌++◌, ◌∙◌}
use denote.Follow.{follows, came}
use Rattle.dash_shard.specs.inner.Locks.Holding.{fact}

module _ {M : Type 1} {𝓤 : Ura M} (𝓛 : Logic 𝓤) (R : RattleType) (ok : R.Denot → Type 0) where
  open 𝓛 use {H, A}
  open words 𝓛 use {◌⊢◌, ◌∗◌, ◌-∗◌, ⟦◌⟧}

  -- the values that fit
  abbrev pub Fit : SemTy
  Fit = record { rep = R.Denot; coded = R.coded; size = (mem R).size; own_at = λ x b o. fsep (part_at R full_share x b o) (fact (ok x)) }

  module _ (κ : Lft) (q : Share) (b e : ℕ) (γ : GName) (x : R.Denot) where
    abbrev pub Owed : ℕ × GName → SProp 𝓤
    Owed u = aged 𝓤 H A u.0 κ (Share.right q) (Body Fit b e γ) ∗ A.lent (deep u.0 κ) (Body (mem R) b e u.1) ∗ A.obs γ (R.coded.code x) ∗ A.auth γ (R.coded.code x)

    abbrev pub lent_as : GName → MutBor R.Denot
    lent_as δ = record { ref_ptr = (b, e); ghost_name = δ; now = x }

    abbrev pub Own : GName → Fml
    Own δ = (MutRef (named 0) κ R).own_val (lent_as δ) (vptr b e ∷ [])

    abbrev pub Loaned : ℕ × GName → SProp 𝓤
    Loaned u = ⟦ Own u.1 ⟧ ∗ A.lft κ (Share.left q) ∗ Owed u

    pub lends_fit : A.obs γ (R.coded.code x) ∗ A.bor κ (Body Fit b e γ) ∗ A.lft κ q ⊢ H.⇛ (guard 𝓤 (ok x) (ex 𝓤 Loaned))
    lends_fit = qed 𝓛 (‵ (fobs γ (R.coded.code x)) ∷ ‵ (fbor κ (Body Fit b e γ)) ∷ ‵ (flft κ q) ∷ []) ∵ updating ! $ move ! (2 ∷ []) $
        use1 𝓛 (‵ (flft κ (Share.left q)) ⊛ ‵ (flft κ (Share.right q))) (𝓛.lfts.lft_split κ q) $ split ! $ move ! (3 ∷ 1 ∷ []) $ bor_open ! tt $ ages ! (λ n.
        -- [open; the value; the left half; the observation]
        move ! (1 ∷ []) $ fpick ! (λ z. fsplit ! $ fsplit ! $ move ! (5 ∷ 2 ∷ []) $ name_agree ! R.coded (λ same.
        -- [the observation; its authority; the value; that it fits; open; the left half]
        rewrite ! 1 (λ (w : R.Denot). ‵ (fauth γ (R.coded.code w))) (sym same) refl $ rewrite ! 2 (λ (w : R.Denot). ‵ (part_at R full_share w b e)) (sym same) refl $
        move ! (3 ∷ []) $ fpick ! (λ fit. drop ! $ name_new ! tt (R.coded.code x) (λ δ. move ! (4 ∷ 1 ∷ []) $ fjoin ! $ fpack ! R.Denot (λ w. fsep (part_at R full_share w b e) (fauth δ (R.coded.code w))) x $ bor_new_deep ! tt n κ $
        -- [the new borrow; the right to have it back; its observation; the observation; its authority; open; the left half]
        move ! (2 ∷ 0 ∷ []) $ feq_i ! (List Val) (vptr b e ∷ []) (vptr b e ∷ []) refl $ fjoin3 ! $ now ! $ check ! (subst ok (sym same) fit) $ show ! Loaned (n, δ) $ keep ! (0 ∷ 5 ∷ 4 ∷ 1 ∷ 2 ∷ 3 ∷ []) $ done !)))))

    module _ (V : RattleType) (put : V.Denot → R.Denot) (fits : (w : V.Denot) → ok (put w)) (u : ℕ × GName) (δ : GName) where
      abbrev Turn : V.Denot → SProp 𝓤
      Turn w = A.auth δ (V.coded.code w) -∗ A.auth γ (R.coded.code (put w))

      abbrev Way : Fml
      Way = fwand (fsep (fdead κ) (fseps (Body (mem R) b e u.1 ∷ []))) (fupd (Body Fit b e γ))

      way_fit : all 𝓤 Turn ∗ ⟦ follows R V u.1 δ put ⟧ ⊢ ⟦ Way ⟧
      unfolding fseps
      way_fit = qed 𝓛 (raw (all 𝓤 Turn) ∷ ‵ (follows R V u.1 δ put) ∷ []) ∵ assume ! (‵ (fsep (fdead κ) (fsep (Body (mem R) b e u.1) ftrue))) $ suffices ! ⟦ Body Fit b e γ ⟧ (upd_i 𝓤 ⟦ Body Fit b e γ ⟧) $
          fsplit3 ! $ move ! (1 ∷ []) $ fpick ! (λ z. fsplit ! $
          -- [the value; its authority; dead; nothing; the turn; how it follows]
          move ! (1 ∷ 5 ∷ []) $ use2 𝓛 (‵ (fex V.Denot (λ w. fsep (feq R.Denot z (put w)) (fauth δ (V.coded.code w))))) (came 𝓛 R V put u.1 δ z) $ fpick ! (λ w. fsplit ! $ feq_l ! (λ is.
          move ! (4 ∷ []) $ use1 𝓛 (raw (Turn w)) (all_e 𝓤 Turn w) $ move ! (1 ∷ 0 ∷ []) $ use2 𝓛 (‵ (fauth γ (R.coded.code (put w)))) (apply∗ 𝓤 (A.auth δ (V.coded.code w)) (A.auth γ (R.coded.code (put w)))) $
          rewrite ! 1 (λ (v : R.Denot). ‵ (part_at R full_share v b e)) is refl $ nothing ! $ fpack ! (ok (put w)) (λ _. ftrue) (fits w) $ move ! (2 ∷ 0 ∷ []) $ fjoin ! $ fjoin ! $
          fpack ! R.Denot (λ v. fsep (Fit.own_at v b e) (fauth γ (R.coded.code v))) (put w) $ keep ! (0 ∷ []) $ done !)))

      pub shuts_fit : Owed u ∗ ⟦ follows R V u.1 δ put ⟧ ⊢ H.⇛ (A.lft κ (Share.right q) ∗ ⟦ follows R V γ δ put ⟧)
      shuts_fit = qed 𝓛 ((raw (aged 𝓤 H A u.0 κ (Share.right q) (Body Fit b e γ)) ⊛ ‵ (flent (deep u.0 κ) (Body (mem R) b e u.1)) ⊛ ‵ (fobs γ (R.coded.code x)) ⊛ ‵ (fauth γ (R.coded.code x))) ∷ ‵ (follows R V u.1 δ put) ∷ []) ∵ updating ! $ split3 ! $ move ! (2 ∷ []) $
          use1 𝓛 (later (‵ (follows R V γ δ put) ⊛ raw (all 𝓤 Turn))) (follows_anew 𝓛 Fit (mem V) put γ δ (R.coded.code x) (R.coded.code x)) $ await ! tt $ split ! $
          -- [how it follows the part; the turn; open; the right; how what was lent follows it]
          move ! (1 ∷ 4 ∷ []) $ use2 𝓛 (‵ Way) way_fit $ use0 𝓛 (raw (A.dead κ -∗ A.dead κ)) (dies 𝓛 κ κ (Incl-refl κ)) $ move ! (3 ∷ 4 ∷ 1 ∷ 0 ∷ []) $ group ! 4 $
          use1 𝓛 (later (‵ (flft κ (Share.right q)) ⊛ raw (A.dead κ -∗ A.bor κ (Body Fit b e γ)))) (close_deep 𝓛 u.0 κ κ (Share.right q) (Body Fit b e γ) (Body (mem R) b e u.1)) $ await ! tt $ split ! $
          now ! $ keep ! (0 ∷ 2 ∷ []) $ done !

-- a key and a part, as the machine has them
pub pair_typed : (κ : Lft) (Q P : RattleType) (z : Bor Q.Denot × MutBor P.Denot) (vs : List Val) → let Out : RattleType = Tuple (ShrRef (named 0) κ Q ∷ MutRef (named 0) κ P ∷ []) in Is Out z vs → Typed Out.mir vs
pair_typed κ Q P z vs is = let Out : RattleType = Tuple (ShrRef (named 0) κ Q ∷ MutRef (named 0) κ P ∷ []) in
    let a : Val = vptr z.0.ref_ptr.0 z.0.ref_ptr.1 in let b : Val = vptr z.1.ref_ptr.0 z.1.ref_ptr.1 in
    let told : vs ≡ vstruct (of_list (a ∷ b ∷ [])) ∷ [] = is.1.0 ∙ ap (λ (ws : List Val). vstruct (of_list (ws ++ (is.0.1.0 ++ []))) ∷ []) is.1.1.0.0 ∙ ap (λ (ws : List Val). vstruct (of_list (a ∷ (ws ++ []))) ∷ []) is.1.1.1.0.0 in
    subst (Typed Out.mir) (sym told) ((tt, (tt, (tt, tt))), tt)
