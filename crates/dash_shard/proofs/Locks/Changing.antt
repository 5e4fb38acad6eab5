-- A value is lent as a `&mut` for one call of `apply`, and comes back as the call left it. Assumes `Logic`.
use Rattle.dash_shard.proofs.Locks.Walking.{[], ℕ, ◌∷◌, Ura, Dict, named, Val, vptr, full_share, common, SProp, ent, sep, ex, guard, wand, emp, apply∗, id⊢, Lft, GName, Share, Fml, ftrue, fsep, flft, flent, fbor, fres, fdead, Memory, Routine, Logic, sem, ‵, raw, ◌⊛◌, some, later, ◌$◌, ◌∵◌, !, qed, move, keep, split, split3, join, fsplit, fjoin, pick, use0, use1, use2, use3, await, updating, now, show, check, frame, done, Body, lft_new, lft_end, lft-common, Fun, fact, fact_i, ◌⊑◌, ⊑_refl, meet_⊑_left, RattleType, part_at, mem, lends_ref, ref_back, param, MutRef, nothing, heard, triple_of, Contract, FnOnceReturnsAtMut, FnOnceTakesAtMut}
use base.Share
use denote.Ref.{MutBor}
use Rattle.dash_shard.specs.contracts.lock.hold.apply as AP
use Rattle.dash_shard.specs.contracts.lock.hold.apply.F-FnOnce as AF

module _ {M : Type 1} {𝓤 : Ura M} (𝓛 : Logic 𝓤) where
  open 𝓛 use {H, A}

  -- [the reference; a token of its lifetime; the way back to the tokens; the lender's part]
  module _ (R : RattleType) (τ : Lft) (r : Share) (b o : ℕ) where
    abbrev pub Way : ℕ → Share → SProp 𝓤
    Way n s = wand 𝓤 (A.lft (n ∷ τ) s) (sep 𝓤 (A.lft (n ∷ []) full_share) (A.lft τ r))

    abbrev pub lent_as : R.Denot → GName → MutBor R.Denot
    lent_as x δ = record { ref_ptr = (b, o); ghost_name = δ; now = x }

    abbrev pub Own : R.Denot → ℕ → GName → Fml
    Own x n δ = (MutRef (named 0) (n ∷ τ) R).own_val (lent_as x δ) (vptr b o ∷ [])

    abbrev pub Lent : R.Denot → ℕ × Share × GName → SProp 𝓤
    Lent x u = sep 𝓤 (sem 𝓛 (Own x u.0 u.2)) (sep 𝓤 (A.lft (u.0 ∷ τ) u.1) (sep 𝓤 (Way u.0 u.1) (A.lent (u.0 ∷ τ) (Body (mem R) b o u.2))))

    pub lends : (x : R.Denot) → ent 𝓤 (sep 𝓤 (sem 𝓛 (part_at R full_share x b o)) (A.lft τ r)) (H.⇛ (ex 𝓤 (Lent x)))
    lends x = qed 𝓛 (‵ (part_at R full_share x b o) ∷ ‵ (flft τ r) ∷ []) ∵ updating ! $ move ! (1 ∷ []) $ lft_new ! tt (λ n.
        let κ : Lft = n ∷ τ in let s : Share = (common full_share r).0 in
        use2 𝓛 (‵ (flft κ s) ⊛ raw (Way n s)) (lft-common 𝓛 (n ∷ []) τ full_share r) $ split ! $ move ! (2 ∷ []) $
        use1 𝓛 (later (some (λ (δ : GName). ‵ (Own x n δ) ⊛ ‵ (flent κ (Body (mem R) b o δ))))) (lends_ref 𝓛 R (named 0) κ x b o) $ await ! tt $ pick ! (λ δ. split ! $ now ! $ show ! (Lent x) (n, s, δ) $
        frame ! $ move ! (1 ∷ []) $ frame ! $ move ! (1 ∷ []) $ frame ! $ done !))

    pub back : (n : ℕ) (s : Share) (δ : GName) (y : R.Denot)
        → ent 𝓤 (sep 𝓤 (A.lft (n ∷ τ) s) (sep 𝓤 (Way n s) (sep 𝓤 (A.lent (n ∷ τ) (Body (mem R) b o δ)) (A.res δ (R.coded.code y))))) (H.⇛ (sep 𝓤 (sem 𝓛 (part_at R full_share y b o)) (A.lft τ r)))
    back n s δ y = let κ : Lft = n ∷ τ in qed 𝓛 (‵ (flft κ s) ∷ raw (Way n s) ∷ ‵ (flent κ (Body (mem R) b o δ)) ∷ ‵ (fres δ (R.coded.code y)) ∷ []) ∵ updating ! $
        use2 𝓛 (‵ (flft (n ∷ []) full_share) ⊛ ‵ (flft τ r)) (apply∗ 𝓤 (A.lft κ s) (sep 𝓤 (A.lft (n ∷ []) full_share) (A.lft τ r))) $ split ! $ lft_end ! tt $
        use1 𝓛 (‵ (fdead κ)) (𝓛.lfts.dead-incl κ (n ∷ []) (meet_⊑_left (n ∷ []) τ)) $ move ! (0 ∷ 2 ∷ 3 ∷ []) $
        use3 𝓛 (later (‵ (part_at R full_share y b o))) (ref_back 𝓛 R κ δ y b o) $ await ! tt $ now ! $ done !

  -- the call of `apply`
  module _ (X Z W : RattleType) (g : AF.Ghosts X Z W) (df dd : Dict) (at_mem : Memory → SProp 𝓤) (run : Routine → Fun 𝓤) where
    abbrev pub App : Contract 𝓤
    App = triple_of 𝓛 (AP.signature X Z W) (AP.spec X Z W g df dd 𝓛 at_mem run)

    abbrev R : RattleType
    R = param 0 X

    module _ (κ ρ φ : Lft) (s sr sf : Share) (b o : ℕ) (δ : GName) (x : X.Denot) (f : W.Denot) (vf : Val) where
      abbrev pub m : MutBor X.Denot
      m = record { ref_ptr = (b, o); ghost_name = δ; now = x }

      abbrev pub at : App.Ghost
      at = (((κ, (κ, (ρ, (φ, tt)))), (Share.left s, (Share.right s, (sr, (sf, tt)))), (⊑_refl κ, tt), (m, (f, tt)), (vptr b o ∷ [], (vf ∷ [], tt))), tt)

      abbrev pub Mine : Fml
      Mine = (MutRef (named 0) κ R).own_val m (vptr b o ∷ [])

      abbrev pub Ran : Z.Denot → X.Denot → Type 0
      Ran r y = FnOnceReturnsAtMut {F = W.Denot} {T = X.Denot} {R = Z.Denot} g f x r y

      abbrev Calls : Type 0
      Calls = FnOnceTakesAtMut {F = W.Denot} {T = X.Denot} {R = Z.Denot × (MutBor X.Denot × Unit {0})} g f x

      pub asks : κ ⊑ X.lives → ρ ⊑ Z.lives → φ ⊑ W.lives → Calls
          → ent 𝓤 (sep 𝓤 (sem 𝓛 Mine) (sep 𝓤 (A.lft κ s) (sep 𝓤 (sem 𝓛 (W.own_val f (vf ∷ []))) (sep 𝓤 (A.lft ρ sr) (A.lft φ sf))))) (App.pre at)
      asks lx lz lw calls = qed 𝓛 (‵ Mine ∷ ‵ (flft κ s) ∷ ‵ (W.own_val f (vf ∷ [])) ∷ ‵ (flft ρ sr) ∷ ‵ (flft φ sf) ∷ []) ∵
          use0 𝓛 (raw (fact 𝓤 Calls)) (fact_i 𝓤 Calls (emp 𝓤) calls) $ use0 𝓛 (raw (fact 𝓤 (φ ⊑ W.lives))) (fact_i 𝓤 (φ ⊑ W.lives) (emp 𝓤) lw) $ join ! $
          use0 𝓛 (raw (fact 𝓤 (ρ ⊑ Z.lives))) (fact_i 𝓤 (ρ ⊑ Z.lives) (emp 𝓤) lz) $ join ! $ use0 𝓛 (raw (fact 𝓤 (κ ⊑ X.lives))) (fact_i 𝓤 (κ ⊑ X.lives) (emp 𝓤) lx) $ join ! $
          -- [the facts; the reference; κ; f; ρ; φ]
          nothing ! $ move ! (4 ∷ 0 ∷ []) $ fjoin ! $ move ! (2 ∷ 0 ∷ []) $ fjoin ! $
          -- [what is passed; the facts; κ; ρ; φ]
          nothing ! $ move ! (5 ∷ 0 ∷ []) $ join ! $ move ! (4 ∷ 0 ∷ []) $ join ! $ move ! (3 ∷ []) $ use1 𝓛 (‵ (flft κ (Share.left s)) ⊛ ‵ (flft κ (Share.right s))) (𝓛.lfts.lft_split κ s) $ split ! $
          -- [left; right; ρ and φ; what is passed; the facts]
          move ! (1 ∷ 2 ∷ []) $ join ! $ move ! (1 ∷ 0 ∷ []) $ join ! $ join ! $ join ! $ done !

      abbrev pub Answered : Val → Z.Denot × X.Denot → SProp 𝓤
      Answered v z = guard 𝓤 (Ran z.0 z.1) (sep 𝓤 (sem 𝓛 (Z.own_val z.0 (v ∷ []))) (sep 𝓤 (A.lft κ s) (sep 𝓤 (A.lft ρ sr) (sep 𝓤 (A.lft φ sf) (A.res δ (X.coded.code z.1))))))

      pub gives : (v : Val) → ent 𝓤 (App.post at v) (H.⇛ (ex 𝓤 (Answered v)))
      gives v = qed 𝓛 (raw (App.post at v) ∷ []) ∵ updating ! $
          use1 𝓛 (later (some (λ (r : Z.Denot). ((‵ (flft κ (Share.left s)) ⊛ ‵ (flft κ (Share.right s)) ⊛ ‵ (flft ρ sr) ⊛ ‵ (flft φ sf) ⊛ ‵ ftrue) ⊛ ‵ (Z.own_val r (v ∷ [])))
          ⊛ some (λ (ws : X.Denot × (Unit {0} × Unit {0})). ‵ (fsep (fsep (fres δ (X.coded.code ws.0)) (fbor κ (Body (mem R) b o δ))) (fsep ftrue ftrue)) ⊛ raw (fact 𝓤 (Ran r ws.0)))))) (id⊢ 𝓤 _) $ await ! tt $ pick ! (λ r.
          split ! $ move ! (1 ∷ []) $ pick ! (λ ws. split ! $ move ! (1 ∷ []) $ heard ! (Ran r ws.0) (λ ran. fsplit ! $ fsplit ! $ move ! (3 ∷ []) $
          -- [the tokens and the result; the last value; the borrow; nothing]
          split ! $ split3 ! $ use2 𝓛 (‵ (flft κ s)) (𝓛.lfts.lft_join κ s) $ move ! (1 ∷ []) $ split3 ! $
          -- [ρ; φ; nothing; κ; the result; the last value; ..]
          now ! $ show ! (Answered v) (r, ws.0) $ check ! ran $ keep ! (4 ∷ 3 ∷ 0 ∷ 1 ∷ 5 ∷ []) $ done !)))
