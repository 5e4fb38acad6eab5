-- A borrow of a lock is cut into those of its word and of its value. Assumes `Logic`.
use Rattle.dash_shard.proofs.Locks.Walking.{[], ℕ, zero, ◌+◌, List, ◌∷◌, Ura, Val, full_share, SProp, sep, ex, ex_i, all_e, upd_i, apply∗, id⊢, Lft, GName, Share, Fml, ftrue, fsep, fseps, fex, fwand, fupd, fdead, fbor, flft, fobs, Logic, sem, ‵, raw, ◌⊛◌, some, ◌$◌, ◌∵◌, !, qed, by, move, keep, drop, use1, use2, split, split3, join, fsplit, fsplit3, fjoin, fjoin3, fpick, fpack, pick, show, assume, suffices, updating, now, done, bor_open, obor_alter, name_new, RattleType, Denots, Lawful, part_of, part_at, cell_at, Struct, u64-laws, Member, row_of, rows_of, parts_at, PartsBack, Struct-parts, shape_of, word, flag, word_out, word_in}
use Rattle.dash_shard.proofs.Locks.Words.{words}
use Rattle.dash_shard.specs.inner.Locks.Holding.{fact, offset, at_home, cell}
use Rattle.dash_shard.specs.declared.lock.tagged.Tagged.{Ghosts}
use Rattle.dash_shard.specs.contracts.lock.cell.Cell as C

-- the borrows of the word and of the value, which u.0 tracks
abbrev pub Cut : {M : Type 1} {𝓤 : Ura M} (𝓛 : Logic 𝓤) (R : RattleType) → (R.Denot → Type 0) → ℕ → ℕ → Lft → GName × R.Denot → SProp 𝓤
Cut {𝓤 = 𝓤} 𝓛 R ok b o κ u = sep 𝓤 (𝓛.A.bor κ (fex ℕ (word b (o + 0)))) (sep 𝓤 (𝓛.A.bor κ (cell R ok b o u.0)) (sem 𝓛 (fobs u.0 (R.coded.code u.1))))

module _ {M : Type 1} {𝓤 : Ura M} (𝓛 : Logic 𝓤) (m : Member) (G : RattleType) (g : Ghosts m.row.Denot G.Denot) (d : G.Denot) (L : Lawful 𝓛 (row_of m)) (b o : ℕ) (κ : Lft) where
  open 𝓛 use {H, A}
  open words 𝓛 use {◌⊢◌, ◌∗◌, ◌-∗◌, ⟦◌⟧}

  abbrev R : RattleType
  R = row_of m

  abbrev ok : R.Denot → Type 0
  ok = g.fits d

  abbrev ks : List Member
  ks = flag ∷ m ∷ []

  abbrev Data : RattleType
  Data = Struct (shape_of [] ks)

  abbrev pub P : Fml
  P = part_at (C.the_written R G g) full_share d b o

  abbrev Fields : ℕ × R.Denot → Fml
  Fields s = part_at Data full_share (s.0, (s.1, tt)) b o

  abbrev wd : ℕ → Fml
  wd n = part_at (row_of flag) full_share n b (o + 0)

  abbrev At : R.Denot → Fml
  At x = part_at R full_share x b (o + offset R)

  abbrev Word : Fml
  Word = fex ℕ (word b (o + 0))

  apart : ⟦ P ⟧ ⊢ ex 𝓤 (λ (s : ℕ × R.Denot). ⟦ Fields s ⟧ ∗ ⟦ fact (ok s.1) ⟧)
  unfolding part_of
  apart = qed 𝓛 (‵ P ∷ []) ∵ fpick ! (λ vs. fsplit ! $ move ! (1 ∷ []) $ fpick ! (λ s. fsplit ! $ move ! (2 ∷ 0 ∷ []) $ fjoin ! $
      fpack ! (List Val) (λ us. fsep (cell_at full_share Data.mir us b o) (Data.own_val (s.0, (s.1, tt)) us)) vs $ show ! (λ (z : ℕ × R.Denot). ⟦ Fields z ⟧ ∗ ⟦ fact (ok z.1) ⟧) s $ done !))

  whole : (s : ℕ × R.Denot) → ⟦ Fields s ⟧ ∗ ⟦ fact (ok s.1) ⟧ ⊢ ⟦ P ⟧
  unfolding part_of
  whole s = qed 𝓛 (‵ (Fields s) ∷ ‵ (fact (ok s.1)) ∷ []) ∵ fpick ! (λ vs. fsplit ! $ move ! (1 ∷ 2 ∷ []) $ fjoin ! $ fpack ! (ℕ × R.Denot) (λ z. fsep (Data.own_val (z.0, (z.1, tt)) vs) (fact (ok z.1))) s $ move ! (1 ∷ 0 ∷ []) $ fjoin ! $
      fpack ! (List Val) (λ us. fsep (cell_at full_share Data.mir us b o) ((C.the_written R G g).own_val d us)) vs $ done !)

  way_back : (ε : GName) → PartsBack 𝓛 full_share [] ks b o ⊢ ⟦ fwand (fsep (fdead κ) (fseps (Word ∷ cell R ok b o ε ∷ []))) (fupd P) ⟧
  unfolding fseps
  way_back ε = qed 𝓛 (raw (PartsBack 𝓛 full_share [] ks b o) ∷ []) ∵ assume ! (‵ (fsep (fdead κ) (fseps (Word ∷ cell R ok b o ε ∷ [])))) $ suffices ! ⟦ P ⟧ (upd_i 𝓤 ⟦ P ⟧) $
      fsplit ! $ drop ! $ fsplit3 ! $ fpick ! (λ n. use1 𝓛 (‵ (wd n)) (word_in 𝓛 b (o + 0) n) $ move ! (1 ∷ []) $ fpick ! (λ x. fsplit ! $ fsplit ! $ move ! (3 ∷ 0 ∷ 4 ∷ []) $ fjoin3 ! $ move ! (3 ∷ []) $
      use1 𝓛 (raw (⟦ parts_at full_share ks zero (n, (x, tt)) b o ⟧ -∗ ⟦ Fields (n, x) ⟧)) (all_e 𝓤 (λ (a : Denots (rows_of ks)). ⟦ parts_at full_share ks zero a b o ⟧ -∗ ⟦ part_at Data full_share a b o ⟧) (n, (x, tt))) $
      move ! (1 ∷ 0 ∷ []) $ use2 𝓛 (‵ (Fields (n, x))) (apply∗ 𝓤 ⟦ parts_at full_share ks zero (n, (x, tt)) b o ⟧ ⟦ Fields (n, x) ⟧) $ move ! (0 ∷ 1 ∷ []) $ keep ! (0 ∷ 1 ∷ []) $ by ! (whole (n, x))))

  pub cut : (q : Share) → A.bor κ P ∗ A.lft κ q ⊢ H.⇛ (ex 𝓤 (Cut 𝓛 R ok b o κ) ∗ A.lft κ q)
  unfolding fseps
  cut q = qed 𝓛 (‵ (fbor κ P) ∷ ‵ (flft κ q) ∷ []) ∵ updating ! $ bor_open ! tt $ move ! (1 ∷ []) $ use1 𝓛 (some (λ (s : ℕ × R.Denot). ‵ (Fields s) ⊛ ‵ (fact (ok s.1)))) apart $ pick ! (λ s. split ! $
      use1 𝓛 ((‵ (wd s.0) ⊛ ‵ (At s.1) ⊛ ‵ ftrue) ⊛ raw (PartsBack 𝓛 full_share [] ks b o)) (Struct-parts 𝓛 full_share [] ks (u64-laws.lawful 𝓛, (L, tt)) (s.0, (s.1, tt)) b o) $ split ! $ split3 ! $
      name_new ! tt (R.coded.code s.1) (λ ε.
      -- [the observation; its authority; the word; the value; nothing; the way back; the fact; the open borrow]
      move ! (3 ∷ 6 ∷ []) $ fjoin ! $ move ! (0 ∷ 2 ∷ []) $ fjoin ! $ fpack ! R.Denot (at_home R ok b o ε) s.1 $
      -- [the cell; the observation; the word; nothing; the way back; the open borrow]
      move ! (2 ∷ []) $ use1 𝓛 (‵ (word b (o + 0) s.0)) (word_out 𝓛 b (o + 0) s.0) $ fpack ! ℕ (word b (o + 0)) s.0 $ move ! (0 ∷ 1 ∷ 3 ∷ []) $ fjoin3 ! $ move ! (2 ∷ []) $
      use1 𝓛 (‵ (fwand (fsep (fdead κ) (fseps (Word ∷ cell R ok b o ε ∷ []))) (fupd P))) (way_back ε) $ move ! (3 ∷ 1 ∷ 0 ∷ []) $ obor_alter ! tt (Word ∷ cell R ok b o ε ∷ []) $
      use1 𝓛 (‵ (fbor κ Word) ⊛ ‵ (fbor κ (cell R ok b o ε)) ⊛ ‵ ftrue) (id⊢ 𝓤 _) $ split3 ! $ move ! (1 ∷ 4 ∷ []) $ join ! $ move ! (1 ∷ 0 ∷ []) $ join ! $
      use1 𝓛 (raw (ex 𝓤 (Cut 𝓛 R ok b o κ))) (ex_i 𝓤 (Cut 𝓛 R ok b o κ) (ε, s.1)) $ now ! $ keep ! (0 ∷ 2 ∷ []) $ done !))
