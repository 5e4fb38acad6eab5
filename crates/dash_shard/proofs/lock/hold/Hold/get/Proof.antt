-- `get` shows the value for as long as the hold is borrowed.
use Rattle.dash_shard.proofs.Locks.Walking.{[], ◌++◌, ◌≡◌, ℕ, suc, ◌+◌, ◌-◌, ◌<◌, List, ◌∷◌, sym, refl, ap, ◌∙◌, arith, dcons, dnil, a_type, named, Val, vptr, inst_fn, emp, SProp, Lft, Fml, ftrue, fsep, flft, fhide, Incl-refl, ‵, raw, ◌⊛◌, given, at_ret, ◌$◌, ◌∵◌, !, qed, by, move, keep, drop, split, join, fsplit, fjoin, fpick, learn, use0, use1, rewrite, feq_i, stop, fld, hop, addr, of_opd, first, blocks, exec, returns, enter, alloc_all, pass_all, free_all, look_at, get, through, sets, sets_last, env, sub, whole, look_in, tables, fact, fact_i, ⊑_meet, yes, RattleType, owns, types_at, plain, named_lft, Ptr, InBlock, block_ptr, block_of, count_of, at_block, nothing, peeks, heard, looks, shuts, unhide, Is, shows, cell_at, hidden_shr, param, bounded, param_laws, RefOf, shr_vals, shr_Tells, shortens, lent_out, Stays, stay_dropped, walk_of, Goes-dropped, tail, proved, leaves}
use Rattle.core.specs.contracts.marker.PhantomData as marker
use Rattle.dash_shard.specs.inner.Locks.Holding.{offset, hold_shares}
use Rattle.dash_shard.specs.contracts.lock.hold.Hold as hold
use Rattle.dash_shard.proofs.Locks.HoldFields.{bits_of, Words, told, opened, shares_placed}
use Rattle.dash_shard.specs.contracts.lock.hold.Hold.get.{ended, clauses}
use Rattle.dash_shard.specs.contracts.lock.hold.Hold.get.Key.{name as #self}
use Rattle.dash_shard.proofs.lock.hold.Hold.get.Statement.{statement}
use Rattle.dash_shard.proofs.lock.hold.Hold.get.Code as code

pub get_spec : {M : Type 1} → statement M
get_spec 𝓤 𝓛 𝓜 𝓡 wired X Y L _ g d _ =
    let H = 𝓛.H in let 𝓣 = tables 𝓤 H 𝓜 𝓡 𝓡.env in let R : RattleType = param 0 X in let G : RattleType = param 1 Y in let En = ended X Y g d in let c = clauses X Y g d 𝓛 𝓜.mem 𝓡.returns in
    let inst = bounded (a_type ∷ a_type ∷ []) (X, (Y, tt)) (dcons d dnil) in let fn = inst_fn inst code.function in let closed = code.unfolded 𝓤 H 𝓜 𝓡 wired (X, (Y, tt)) d in let LR = param_laws 0 X L in
    let row = plain (λ κs. hold.the_row (named_lft 4 1 tt κs) R G g) in let self = RefOf (0 ∷ []) tt row (λ _. tt) in let hs : Stays En.signature.params En.kept = (stay_dropped self yes, tt) in
    proved 𝓛 En hs c 𝓜 𝓡 (Goes-dropped 𝓛 4 self yes (λ κs x f. refl), tt) (#self inst) fn closed
    (λ κs. (shr_vals, tt)) (λ κs. (shr_Tells (named 0) κs.0 (hold.the_row (named_lft 4 1 tt κs) R G g), tt)) (λ κs qs bounds a gh are.
    let ℓ = named_lft 4 1 tt κs in let Hr : RattleType = hold.the_row ℓ R G g in let D : RattleType = Words ℓ R G g in let b : ℕ = a.0.ref_ptr.0 in let o : ℕ = a.0.ref_ptr.1 in let κ : Lft = κs.0 in let β : Lft = κs.1.0 in
    let h : Hr.Denot = a.0.now in let p : Ptr = h.cell in let x : X.Denot = h.value in let others : Fml = fsep (flft β qs.1.0) (fsep (flft κs.1.1.0 qs.1.1.0) (fsep (flft κs.1.1.1.0 qs.1.1.1.0) ftrue)) in let ok = g.fits h.tag in
    let pb : ℕ = block_of p in let po : ℕ = count_of p in let e : ℕ = po + offset R in
    let y : (walk_of 𝓛 En hs c).Ghost = ((κs, qs, bounds, a, (vptr b o ∷ [], tt)), gh) in let Post : Val → SProp 𝓤 = (walk_of 𝓛 En hs c).post y in
    qed 𝓛 (((‵ (flft κ qs.0) ⊛ ‵ others) ⊛ ‵ (owns (types_at En.signature.params κs) a y.0.4)) ∷ raw (fact 𝓤 _) ∷ raw (fact 𝓤 _) ∷ raw (fact 𝓤 (0 < h.right)) ∷ []) ∵
    keep ! (3 ∷ 0 ∷ []) $ heard ! (0 < h.right) (λ some. let asked : h.right ≡ suc (h.right - 1) = omega arith in split ! $ split ! $ move ! (2 ∷ []) $ fsplit ! $ fsplit ! $ keep ! (1 ∷ 3 ∷ 4 ∷ []) $
    enter ! 𝓣.C 𝓣.Λ fn (vptr b o ∷ []) Post $ alloc_all ! (λ l. pass_all ! refl ((tt, tt), tt) $ let Ev = env fn.locals l in
    -- [self; κ; the other tokens]
    use1 𝓛 (‵ (hidden_shr D κ (p, (tt, tt)) b o) ⊛ ‵ (fhide (hold_shares β R ok p h.right x κ)))
    (lent_out 𝓛 (hold.struct ℓ R G g) (hold.the_codes X.Denot Y.Denot R.coded G.coded (marker.the_row (denote.Ref.ShrRef ℓ.mir ℓ.lft R)).coded) (hold.the_heap β R G g) (hold.the_lent β R G g) κ h b o) $
    split ! $ move ! (1 ∷ []) $ unhide ! $ rewrite ! 0 (λ (k : ℕ). ‵ (hold_shares β R ok p k x κ)) asked refl $
    use1 𝓛 (given (InBlock p) (‵ (hold_shares β R ok p (suc (h.right - 1)) x κ))) (shares_placed 𝓛 β R ok p (suc (h.right - 1)) x κ) $ learn ! (λ inb.
    let at : p ≡ block_ptr pb po = at_block p inb in rewrite ! 0 (λ (z : Ptr). ‵ (hold_shares β R ok z (suc (h.right - 1)) x κ)) at refl $
    fsplit ! $ fpick ! (λ fit. drop ! $ use1 𝓛 (‵ (hidden_shr R κ x pb e)) (shortens 𝓛 (denote.Memory.shared_of R x pb e) (LR.shr_laws x pb e) (κ ++ β) κ (⊑_meet κ κ β (Incl-refl κ) bounds.0)) $ move ! (1 ∷ 2 ∷ []) $
    -- [self's fields; κ; the value; the other tokens]
    looks ! tt D (opened ℓ R G g 𝓛) (p, (tt, tt)) b o (λ q vs. move ! (1 ∷ []) $ peeks ! D (Is D) (shows 𝓛 D) (p, (tt, tt)) vs (λ is_so.
    let ev : vs ≡ bits_of (block_ptr pb po) ∷ [] = told ℓ R G g p vs is_so ∙ ap (λ (r : Ptr). bits_of r ∷ []) at in
    rewrite ! 1 (λ (ws : List Val). ‵ (cell_at q D.mir ws b o)) ev refl $ first ! $ blocks ! $
    sets_last ! (addr ! (through ! refl (fld ! refl (hop ! (look_in ! 1 (sub ! 0 refl (whole !))) (fld ! refl (stop !)))))) refl (tt, tt) $ exec ! 𝓣.C 𝓣.Λ Ev (tail fn.body) (at_ret Ev Post) $
    sets ! (of_opd ! (get ! refl)) refl (tt, tt) $ rewrite ! 1 (λ (ws : List Val). ‵ (cell_at q D.mir ws b o)) (sym ev) refl $ move ! (1 ∷ 0 ∷ 2 ∷ []) $ shuts ! tt D q (p, (tt, tt)) vs b o $
    move ! (0 ∷ 3 ∷ []) $ join ! $ move ! (2 ∷ []) $ feq_i ! (List Val) (vptr pb e ∷ []) (vptr pb e ∷ []) refl $ fjoin ! $
    use0 𝓛 (raw (fact 𝓤 (x ≡ x))) (fact_i 𝓤 (x ≡ x) (emp 𝓤) refl) $ nothing ! $ nothing ! $ fjoin ! $
    -- [self; what is ensured; the result; the tokens]
    returns ! (look_at ! 0 refl) $ free_all ! refl $ keep ! (3 ∷ 0 ∷ 2 ∷ 1 ∷ []) $ by ! (leaves 𝓛 En hs c y (vptr pb e) (record { ref_ptr = (pb, e); now = x }) (tt, tt) (tt, tt)))))))))
