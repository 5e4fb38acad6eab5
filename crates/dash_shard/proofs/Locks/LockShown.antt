-- A borrow of a lock shows its value, whatever the word holds. Assumes `Logic`.
use Rattle.dash_shard.proofs.Locks.Walking.{[], ◌++◌, ◌≡◌, ℕ, ◌+◌, List, ◌∷◌, sym, subst, refl, Ura, Ty, full_share, ent, sep, ex, guard, Lft, GName, Incl, Fml, ftrue, fex, fbor, fobs, Incl-trans, meet_⊑_left, Toks, span, Logic, sem, lfts, ‵, raw, ◌⊛◌, some, given, later, ◌$◌, ◌∵◌, !, qed, move, drop, use2, split, split3, join, fjoin, fpack, pick, learn, await, updating, now, done, RattleType, Lawful, part_at, shared_of, nothing, Shares, some_shr_laws, layout, Laws, Member, row_of, Law, Written, Laid, Laid-laws, by_one}
use denote.Sharing as sharing
use Rattle.dash_shard.specs.inner.Locks.Holding.{offset, cell, seen}
use Rattle.dash_shard.specs.declared.lock.tagged.Tagged.{Ghosts}
use Rattle.dash_shard.specs.declared.lock.cell.Cell as D
use Rattle.dash_shard.specs.contracts.lock.cell.Cell as C
use Rattle.dash_shard.specs.contracts.lock.cell.Cell.TheInside as inside
use Rattle.dash_shard.proofs.Locks.Rounds.{seen_laws, value_at}
use Rattle.dash_shard.proofs.Locks.LockBorrows.{P, Cut, cut}

abbrev pub shown : (T G : RattleType) (g : Ghosts T.Denot G.Denot) → G.Denot → ℕ → ℕ → Lft → Fml
shown T G g d b o = sharing.some T.Denot (λ x. seen T (g.fits d) b o x)

abbrev pub written : (T G : RattleType) → Ghosts T.Denot G.Denot → RattleType
written T G g = Written (inside.the_row T G g) (D.Cell T.Denot G.Denot) (D.the_code T.Denot G.Denot T.coded G.coded) (C.the_own T G g) (shown T G g)

module _ {M : Type 1} {𝓤 : Ura M} (𝓛 : Logic 𝓤) (m : Member) (G : RattleType) (g : Ghosts m.row.Denot G.Denot) (d : G.Denot) (L : Lawful 𝓛 (row_of m)) (b o : ℕ) (κ : Lft) where
  open 𝓛 use {H, A}

  abbrev R : RattleType
  R = row_of m

  abbrev At : R.Denot → Fml
  At x = part_at R full_share x b (o + offset R)

  abbrev Ob : GName → R.Denot → Fml
  Ob ε x = fobs ε (R.coded.code x)

  made : (l : Lft) → Shares 𝓛 R l → (ts : Toks) → Incl (span ts) l → Incl (span ts) κ → ent 𝓤 (sep 𝓤 (A.bor κ (P 𝓛 m G g d L b o κ)) (lfts 𝓛 ts)) (H.⇛ (sep 𝓤 (sem 𝓛 (shown R G g d b o κ)) (lfts 𝓛 ts)))
  made l shares ts inc sp = let ok = g.fits d in
      qed 𝓛 (‵ (fbor κ (P 𝓛 m G g d L b o κ)) ∷ raw (lfts 𝓛 ts) ∷ []) ∵ updating ! $
      use2 𝓛 (later (some (λ (u : GName × R.Denot). ‵ (fbor κ (fex ℕ (Rattle.core.specs.Sync.RawAtomic.word b (o + 0)))) ⊛ ‵ (fbor κ (cell R ok b o u.0)) ⊛ ‵ (Ob u.0 u.1)) ⊛ raw (lfts 𝓛 ts))) (by_one 𝓛 κ ts sp (A.bor κ (P 𝓛 m G g d L b o κ)) (ex 𝓤 (Cut 𝓛 R ok b o κ)) (cut 𝓛 m G g d L b o κ)) $
      await ! tt $ split ! $ pick ! (λ u. split3 ! $ drop ! $ move ! (1 ∷ 0 ∷ []) $ join ! $ let x : R.Denot = u.1 in
      use2 𝓛 (later (given (ok x) (‵ (Ob u.0 x) ⊛ ‵ (fbor κ (At x))) ⊛ raw (lfts 𝓛 ts))) (by_one 𝓛 κ ts sp (sep 𝓤 (sem 𝓛 (Ob u.0 x)) (A.bor κ (cell R ok b o u.0))) (guard 𝓤 (ok x) (sep 𝓤 (sem 𝓛 (Ob u.0 x)) (A.bor κ (At x)))) (value_at 𝓛 R ok b o u.0 x κ)) $
      await ! tt $ split ! $ learn ! (λ h. split ! $ drop ! $ use2 𝓛 (later (‵ (shared_of R x b (o + offset R) κ) ⊛ raw (lfts 𝓛 ts))) (shares x κ ts b (o + offset R) inc sp) $ await ! tt $ split ! $
      nothing ! $ fpack ! (ok x) (λ _. ftrue) h $ fjoin ! $ fpack ! R.Denot (λ y. seen R ok b o y κ) x $ now ! $ done !))

pub law : (T G : RattleType) (g : Ghosts T.Denot G.Denot) → Laws T → Law (written T G g)
law T G g L = let m : Member = record { row = T; ty = layout T } in
    let same : T ≡ row_of m = λ i. record { Denot = T.Denot; mir = L.one i; written = T.written; reaches = T.reaches; lives = T.lives; own_val = T.own_val; exit = T.exit; coded = T.coded; shr_at = T.shr_at } in
    subst (λ (τ : List Ty). Law (written (record T { mir = τ }) G g)) (sym L.one) (record {
      shr_laws = λ d b o. some_shr_laws T.Denot (λ x. seen (row_of m) (g.fits d) b o x) (λ x. seen_laws (row_of m) (g.fits d) (subst (λ (R : RattleType). denote.RattleType.RowLaws R) same L.shr_laws) b o x);
      shares = λ M 𝓤 𝓛 d κ ts b o inc sp. made 𝓛 m G g d (subst (Lawful 𝓛) same (L.lawful 𝓛)) b o κ T.lives (subst (λ (R : RattleType). Shares 𝓛 R T.lives) same (L.shares 𝓛)) ts
          (Incl-trans inc (Incl-trans (meet_⊑_left (T.lives ++ (G.lives ++ [])) _) (meet_⊑_left T.lives (G.lives ++ [])))) sp;
    })

abbrev pub laid : (T G : RattleType) → Ghosts T.Denot G.Denot → RattleType
laid T G g = Laid (inside.the_row T G g) (D.Cell T.Denot G.Denot) (D.the_code T.Denot G.Denot T.coded G.coded) (C.the_own T G g) (shown T G g)

pub laws : (T G : RattleType) (g : Ghosts T.Denot G.Denot) → Laws T → Laws (laid T G g)
laws T G g L = Laid-laws (inside.the_row T G g) (D.Cell T.Denot G.Denot) (D.the_code T.Denot G.Denot T.coded G.coded) (C.the_own T G g) (shown T G g) refl (law T G g L)
