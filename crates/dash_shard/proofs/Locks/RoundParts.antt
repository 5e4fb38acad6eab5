-- The parts of a round: cut, glued and compared. Assumes `Logic`.
use Rattle.dash_shard.proofs.Locks.Walking.{[], ◌≡◌, ℕ, ◌+◌, ◌-◌, ◌^◌, ◌<◌, ◌≤◌, ◌∷◌, refl, arith, ◌∈◌, Ura, full_share, Counts, counts_some, Counts-op, Counts-all, not-OpDef-full_share, coded_ℕ, coded, SetCoded-set, SProp, guard, upd, guard_i, GName, Share, fex, flft, Logic, ‵, ◌⊛◌, given, ◌$◌, ◌∵◌, !, qed, by, move, keep, split, fsplit, fjoin, fpick, fpack, learn, check, use1, use2, done, own_glued, own_sum, own_join, own_step}
use Rattle.dash_shard.proofs.Locks.Words.{words}
use seplogic.Ra.Constructions.Prod
use seplogic.Ra.Instances.Ag
use base.Share
use Rattle.dash_shard.specs.inner.Locks.Holding.{rounds, names, share, parts}

module _ {M : Type 1} {𝓤 : Ura M} (𝓛 : Logic 𝓤) (γ : GName) where
  open words 𝓛 use {◌⊢◌, ◌∗◌, ⟦◌⟧}

  both_say : (a : ℕ) (r e f : Share) → r ∈ Share.op e f → ◌∈◌ {α = Share × ℕ} (r, a) (rounds.op (e, a) (f, a))
  both_say a r e f m = Prod.mk-mem-op Share.op (Ag.op (SetCoded-set (coded coded_ℕ))) {a = e} {a' = f} {x = r} {b = a} {b' = a} {y = a} m (Ag.idem (SetCoded-set (coded coded_ℕ)) a)

  pub parts_in : (a k : ℕ) (e : Share) → Counts 63 e k → ⟦ share γ a e ⟧ ⊢ ⟦ parts γ a k ⟧
  parts_in a k e c = qed 𝓛 (‵ (share γ a e) ∷ []) ∵ fpack ! (Counts 63 e k) (λ _. share γ a e) c $ fpack ! Share (λ s. fex (Counts 63 s k) (λ _. share γ a s)) e $ done !

  pub parts_cut : (a k i j : ℕ) → 0 < i → 0 < j → i + j ≡ k → k ≤ 2 ^ 63 → ⟦ parts γ a k ⟧ ⊢ ⟦ parts γ a i ⟧ ∗ ⟦ parts γ a j ⟧
  parts_cut a k i j pi pj total fits = let e = counts_some 63 i pi (omega arith) in let f = counts_some 63 j pj (omega arith) in
      qed 𝓛 (‵ (parts γ a k) ∷ []) ∵ fpick ! (λ r. fpick ! (λ c. let m = Counts-op 63 e.0 f.0 r i j k e.1 f.1 c total in fsplit ! $
      use1 𝓛 (‵ (flft (a ∷ []) e.0) ⊛ ‵ (flft (a ∷ []) f.0)) (𝓛.lfts.lft_cut (a ∷ []) r e.0 f.0 m) $ split ! $ move ! (2 ∷ []) $
      use1 𝓛 (‵ (names γ e.0 a) ⊛ ‵ (names γ f.0 a)) (𝓛.algebras.own_cut rounds γ (e.0, a) (f.0, a) (r, a) (both_say a r e.0 f.0 m)) $ split ! $
      move ! (3 ∷ 1 ∷ []) $ fjoin ! $ use1 𝓛 (‵ (parts γ a j)) (parts_in a j f.0 f.1) $ move ! (2 ∷ 1 ∷ []) $ fjoin ! $ use1 𝓛 (‵ (parts γ a i)) (parts_in a i e.0 e.1) $ done !))

  glued : (a i j : ℕ) (r : Share) → Counts 63 r (i + j) → ⟦ parts γ a i ⟧ ∗ ⟦ parts γ a j ⟧ ⊢ ⟦ share γ a r ⟧
  glued a i j r c = qed 𝓛 (‵ (parts γ a i) ∷ ‵ (parts γ a j) ∷ []) ∵ fpick ! (λ e. fpick ! (λ ce. move ! (1 ∷ []) $ fpick ! (λ f. fpick ! (λ cf. let m = Counts-op 63 e f r i j (i + j) ce cf c refl in
      fsplit ! $ move ! (2 ∷ []) $ fsplit ! $ move ! (1 ∷ 3 ∷ []) $ use2 𝓛 (‵ (names γ r a)) (own_join 𝓛 rounds γ (e, a) (f, a) (r, a) (both_say a r e f m)) $
      move ! (1 ∷ 2 ∷ []) $ use2 𝓛 (‵ (flft (a ∷ []) r)) (𝓛.lfts.lft_glue (a ∷ []) r e f m) $ done !))))

  pub parts_glue : (a i j : ℕ) → 0 < i + j → i + j ≤ 2 ^ 63 → ⟦ parts γ a i ⟧ ∗ ⟦ parts γ a j ⟧ ⊢ ⟦ parts γ a (i + j) ⟧
  parts_glue a i j some fits = let r = counts_some 63 (i + j) some fits in
      qed 𝓛 (‵ (parts γ a i) ∷ ‵ (parts γ a j) ∷ []) ∵ use2 𝓛 (‵ (share γ a r.0)) (glued a i j r.0 r.1) $ by ! (parts_in a (i + j) r.0 r.1)

  pub parts_whole : (a : ℕ) → ⟦ parts γ a (2 ^ 63) ⟧ ⊢ ⟦ share γ a full_share ⟧
  parts_whole a = qed 𝓛 (‵ (parts γ a (2 ^ 63)) ∷ []) ∵
      use1 𝓛 (‵ (parts γ a 1) ⊛ ‵ (parts γ a (2 ^ 63 - 1))) (parts_cut a (2 ^ 63) 1 (2 ^ 63 - 1) (omega arith) (omega arith) (omega arith) (omega arith)) $ split ! $
      by ! (glued a 1 (2 ^ 63 - 1) full_share (Counts-all 63))

  -- no part stands beside the whole name
  pub none_beside : (a c k : ℕ) (Z : SProp 𝓤) → ⟦ names γ full_share c ⟧ ∗ ⟦ parts γ a k ⟧ ⊢ Z
  none_beside a c k Z = qed 𝓛 (‵ (names γ full_share c) ∷ ‵ (parts γ a k) ∷ []) ∵ move ! (1 ∷ []) $ fpick ! (λ e. fpick ! (λ _. fsplit ! $ keep ! (2 ∷ 1 ∷ []) $
      by ! (own_glued 𝓛 rounds γ (full_share, c) (e, a) Z (λ x m. absurd (not-OpDef-full_share e m.0.0)))))

  pub parts_agree : (a c i j : ℕ) → ⟦ parts γ a i ⟧ ∗ ⟦ parts γ c j ⟧ ⊢ guard 𝓤 (a ≡ c) (⟦ parts γ a i ⟧ ∗ ⟦ parts γ c j ⟧)
  parts_agree a c i j = qed 𝓛 (‵ (parts γ a i) ∷ ‵ (parts γ c j) ∷ []) ∵ fpick ! (λ e. fpick ! (λ ce. fsplit ! $ move ! (2 ∷ []) $ fpick ! (λ f. fpick ! (λ cf. fsplit ! $ move ! (3 ∷ 1 ∷ []) $
      let Z : SProp 𝓤 = ⟦ names γ e a ⟧ ∗ ⟦ names γ f c ⟧ in use2 𝓛 (given (a ≡ c) (‵ (names γ e a) ⊛ ‵ (names γ f c))) (own_sum 𝓛 rounds γ (e, a) (f, c) (guard 𝓤 (a ≡ c) Z) (λ x m. guard_i 𝓤 (a ≡ c) Z m.0.1)) $
      learn ! (λ same. check ! same $ split ! $ move ! (2 ∷ 1 ∷ []) $ fjoin ! $ use1 𝓛 (‵ (parts γ c j)) (parts_in c j f cf) $ move ! (2 ∷ 1 ∷ []) $ fjoin ! $ use1 𝓛 (‵ (parts γ a i)) (parts_in a i e ce) $ done !)))))

  pub renames : (c a : ℕ) → ⟦ names γ full_share c ⟧ ⊢ upd 𝓤 ⟦ names γ full_share a ⟧
  renames c a = own_step 𝓛 rounds γ (full_share, c) (full_share, a) (λ f d. absurd (not-OpDef-full_share f.0 d.0))
