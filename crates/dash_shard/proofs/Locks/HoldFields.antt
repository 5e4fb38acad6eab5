-- The data fields of a `Hold`. Assumes `Logic`.
use Rattle.dash_shard.proofs.Locks.Walking.{Share, Item, flft, wand, guard, guard_i, ‵, raw, ◌⊛◌, some, later, [], ◌++◌, ◌≡◌, ℕ, T, List, ◌∷◌, refl, ap, ◌∙◌, Ura, ty_ptr, ty_struct, tcons, tnil, Val, vstruct, vcons, vnil, of_list, has_ty, WT, ent, emp, never_e, Lft, Logic, sem, RattleType, Is, NamedLft, ShrRef, Opens, Struct-Copied, Ptr, InBlock, block_ptr, null_ptr, ptr_val, makes_shadow, RawPtr-copy, field_copy, Struct, shape}
use Rattle.core.specs.contracts.marker.PhantomData as marker
use Rattle.dash_shard.specs.declared.lock.tagged.Tagged.{Ghosts}
use Rattle.dash_shard.specs.inner.Locks.Holding.{hold_owns, hold_shares}
use Rattle.dash_shard.specs.contracts.lock.hold.Hold as hold

abbrev pub bits_of : Ptr → Val
bits_of p = vstruct (vcons (ptr_val p) (vcons (vstruct vnil) vnil))

pub typed : (p : Ptr) → InBlock p → T (has_ty (ty_struct [] (tcons ty_ptr (tcons (ty_struct [] tnil) tnil))) (bits_of p)) × WT (bits_of p)
typed (block_ptr b o) i = (tt, (tt, (tt, tt)))
typed null_ptr i = absurd i

module _ (a : NamedLft) (R G : RattleType) (g : Ghosts R.Denot G.Denot) where
  abbrev pub Words : RattleType
  Words = Struct (shape (hold.the_type a R G g))

  pub told : (p : Ptr) (vs : List Val) → Is Words (p, (tt, tt)) vs → vs ≡ bits_of p ∷ []
  told p vs is = is.1.0 ∙ ap (λ (ws : List Val). vstruct (of_list (ws ++ (is.0.1.0 ++ []))) ∷ []) is.1.1.0 ∙ ap (λ (ws : List Val). vstruct (of_list (ptr_val p ∷ (ws ++ []))) ∷ []) is.1.1.1.0.1.0

  pub made : {M : Type 1} {𝓤 : Ura M} (𝓛 : Logic 𝓤) (p : Ptr) → ent 𝓤 (emp 𝓤) (sem 𝓛 (Words.own_val (p, (tt, tt)) (bits_of p ∷ [])))
  made 𝓛 p = makes_shadow 𝓛 (Words.own_val (p, (tt, tt)) (bits_of p ∷ [])) (λ vss. (tt, (tt, ((λ uss. (tt, tt)), tt)))) ((ptr_val p ∷ [], (vstruct vnil ∷ [], tt)), (refl, (refl, ((tt, (refl, tt)), tt))))

  pub opened : {M : Type 1} {𝓤 : Ura M} (𝓛 : Logic 𝓤) → Opens 𝓛 Words
  opened {M} {𝓤 = 𝓤} 𝓛 = (Struct-Copied 𝓛 (shape (hold.the_type a R G g)) (refl, (refl, tt)) (RawPtr-copy.copied M 𝓤 𝓛, ((field_copy (marker.the_type (ShrRef a.mir a.lft R)) tt).copied M 𝓤 𝓛, tt))).opens

-- a share of the token of α, and the way back from it to that of β
abbrev pub lent : {M : Type 1} {𝓤 : Ura M} (𝓛 : Logic 𝓤) → Lft → Lft → Share → Item 𝓤
lent {𝓤 = 𝓤} 𝓛 α β q = later (some (λ (s : Share). ‵ (flft α s) ⊛ raw (wand 𝓤 (𝓛.A.lft α s) (𝓛.H.⇛ (𝓛.A.lft β q)))))

-- a hold names a slot
module _ {M : Type 1} {𝓤 : Ura M} (𝓛 : Logic 𝓤) (β : Lft) (R : RattleType) (ok : R.Denot → Type 0) where
  pub owns_placed : (p : Ptr) (right : ℕ) (x : R.Denot) → ent 𝓤 (sem 𝓛 (hold_owns β R ok p right x)) (guard 𝓤 (InBlock p) (sem 𝓛 (hold_owns β R ok p right x)))
  owns_placed (block_ptr b o) right x = guard_i 𝓤 (InBlock (block_ptr b o)) (sem 𝓛 (hold_owns β R ok (block_ptr b o) right x)) tt
  owns_placed null_ptr right x = never_e 𝓤 _

  pub shares_placed : (p : Ptr) (right : ℕ) (x : R.Denot) (κ : Lft) → ent 𝓤 (sem 𝓛 (hold_shares β R ok p right x κ)) (guard 𝓤 (InBlock p) (sem 𝓛 (hold_shares β R ok p right x κ)))
  shares_placed (block_ptr b o) right x κ = guard_i 𝓤 (InBlock (block_ptr b o)) (sem 𝓛 (hold_shares β R ok (block_ptr b o) right x κ)) tt
  shares_placed null_ptr right x κ = never_e 𝓤 _
