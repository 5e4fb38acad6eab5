-- A hold for writing is cut into the borrow of its value and a rest, so that the value can be lent through the `&mut` to the hold. Assumes `Logic`.
use Rattle.dash_shard.proofs.Locks.Walking.{[], ◌≡◌, ℕ, ◌+◌, ◌∷◌, refl, sym, ap, Ura, full_share, SProp, ex, Lft, GName, Share, Incl, Fml, fsep, finv, fobs, fbor, before, Logic, ‵, ◌⊛◌, ◌$◌, ◌∵◌, !, qed, by, move, keep, use1, split, split3, fsplit, fjoin, fpick, fpack, show, rewrite, done, RattleType, NamedLft, Ptr, block_ptr, part_at, mem, Body, out}
use Rattle.dash_shard.proofs.Locks.Words.{words}
use denote.Struct.OwningLaws.{part_out, part_in}
use denote.Follow.{follows}
use Rattle.core.proofs.cell.Through.{hands_before}
use Rattle.dash_shard.specs.declared.lock.tagged.Tagged.{Ghosts}
use Rattle.dash_shard.specs.contracts.lock.hold.Hold as hold
use Rattle.dash_shard.specs.inner.Locks.Holding.{Fixed, offset, Inv, kept, writer, hold_owns}
use Rattle.dash_shard.specs.inner.Locks.Lending.{with_held}
use Rattle.dash_shard.proofs.Locks.HoldFields.{Words}
use Rattle.dash_shard.proofs.Locks.Fitting.{Fit}

module _ {M : Type 1} {𝓤 : Ura M} (𝓛 : Logic 𝓤) (a : NamedLft) (R G : RattleType) (g : Ghosts R.Denot G.Denot) (h : (hold.the_row a R G g).Denot) (b o sb so : ℕ) (at : h.cell ≡ block_ptr b o) (asked : h.right ≡ 2) where
  open 𝓛 use {H, A}
  open words 𝓛 use {◌⊢◌, ◌∗◌, ⟦◌⟧}

  abbrev Hr : RattleType
  Hr = hold.the_row a R G g

  abbrev β : Lft
  β = a.lft

  abbrev ok : R.Denot → Type 0
  ok = g.fits h.tag

  abbrev e : ℕ
  e = o + offset R

  abbrev F : R.Denot → Hr.Denot
  F = with_held h

  abbrev Ws : Fml
  Ws = part_at (Words a R G g) full_share (h.cell, (tt, tt)) sb so

  abbrev Rest : Fixed R.Denot → SProp 𝓤
  Rest t = ⟦ Ws ⟧ ∗ ⟦ out t.lent ⟧ ∗ A.inv (fbor t.life (Inv R ok b o t))

  abbrev Cut : R.Denot → Fixed R.Denot → SProp 𝓤
  Cut w t = ⟦ before β t.life ⟧ ∗ A.obs t.track (R.coded.code w) ∗ A.bor t.life (Body (Fit 𝓛 R ok) b e t.track) ∗ Rest t

  cut : ⟦ part_at Hr full_share h sb so ⟧ ⊢ ex 𝓤 (Cut h.value)
  cut = qed 𝓛 (‵ (part_at Hr full_share h sb so) ∷ []) ∵ use1 𝓛 (‵ Ws ⊛ ‵ (hold_owns β R ok h.cell h.right h.value)) (part_out 𝓛 (hold.the_type a R G g) full_share h sb so) $ split ! $ move ! (1 ∷ []) $
      rewrite ! 0 (λ (z : Ptr × ℕ). ‵ (hold_owns β R ok z.0 z.1 h.value)) (λ i. (at i, asked i)) refl $ fpick ! (λ t. fsplit ! $ fsplit ! $ move ! (2 ∷ []) $ fsplit ! $ move ! (1 ∷ []) $ fsplit ! $
      -- [the observation; the borrow; out; before; the invariant; the words]
      show ! (Cut h.value) t $ keep ! (3 ∷ 0 ∷ 1 ∷ 5 ∷ 2 ∷ 4 ∷ []) $ done !)

  back : (t : Fixed R.Denot) (w : R.Denot) → Cut w t ⊢ ⟦ part_at Hr full_share (F w) sb so ⟧
  back t w = qed 𝓛 (‵ (before β t.life) ∷ ‵ (fobs t.track (R.coded.code w)) ∷ ‵ (fbor t.life (Body (Fit 𝓛 R ok) b e t.track)) ∷ (‵ Ws ⊛ ‵ (out t.lent) ⊛ ‵ (finv (fbor t.life (Inv R ok b o t)))) ∷ []) ∵ move ! (3 ∷ []) $ split3 ! $
      -- [the words; out; the invariant; before; the observation; the borrow]
      move ! (4 ∷ 5 ∷ []) $ fjoin ! $ move ! (2 ∷ 0 ∷ []) $ fjoin ! $ move ! (3 ∷ 2 ∷ []) $ fjoin ! $ fjoin ! $ fpack ! (Fixed R.Denot) (λ z. fsep (kept R ok b o z β) (writer R ok b o z w)) t $
      rewrite ! 0 (λ (z : Ptr × ℕ). ‵ (hold_owns β R ok z.0 z.1 w)) (sym (λ i. (at i, asked i))) refl $ move ! (1 ∷ 0 ∷ []) $ by ! (part_in 𝓛 (hold.the_type a R G g) full_share (F w) sb so)

  module _ (κ : Lft) (inc : Incl κ β) (q : Share) (γ : GName) where
    abbrev pub Handed : GName → SProp 𝓤
    Handed δ = A.obs δ (R.coded.code h.value) ∗ A.bor κ (Body (Fit 𝓛 R ok) b e δ) ∗ A.lft κ q ∗ ⟦ follows Hr R γ δ F ⟧

    pub handed : A.obs γ (Hr.coded.code h) ∗ A.bor κ (Body (mem Hr) sb so γ) ∗ A.lft κ q ⊢ H.⇛ (ex 𝓤 Handed)
    handed = hands_before 𝓛 (mem Hr) (Fit 𝓛 R ok) F (λ v w. ap (λ (z : Hr.Denot). z.value)) sb so b e γ κ β inc (Fixed R.Denot) (λ t. t.life) (λ t. t.track) Rest back q h h.value cut
