-- `change` ends the writer's round, lends the value that comes back for one call, and begins another round with what the call left.
use Rattle.dash_shard.proofs.Locks.Walking.{[], ◌≡◌, ℕ, ◌+◌, List, ◌∷◌, sym, refl, ap, ◌∙◌, subst, dcons, dnil, a_type, named, Val, vptr, inst_fn, full_share, emp, SProp, ent, apply∗, Lft, Share, GName, ftrue, fsep, flft, flent, fres, Incl-trans, before, WpFn, Body, ‵, raw, ◌⊛◌, some, given, later, at_ret, ◌$◌, ◌∵◌, !, qed, by, move, keep, drop, split, split3, join, fsplit, fsplit3, fjoin, fjoin3, fpick, fpack, pick, learn, use0, use1, use2, group, await, rewrite, stop, fld, hop, addr, of_opd, no_more, and_then, first, blocks, exec, returns, enter, alloc_all, pass_all, free_all, look_at, get, through, sets, lands_last, env, sub, whole, look_in, bor_open, obor_close, name_agree, name_set, before_dup, tables, fact, fact_i, ◌⊑◌, meet_⊑_right, Lends-one, no, Is, shows, cell_at, part_at, mem, param, bounded, param_laws, RattleType, owns, Ptr, InBlock, block_ptr, block_of, count_of, at_block, mut_vals, mut_Tells, types_at, plain, named_lft, nothing, peeks, heard, opens, closes, calls_at_last, Stays, stay_dropped, stay_ref, walk_of, Goes-dropped, Goes-ref, tail, El, lawful, Good, one, FnOnceReturnsAtMut, FnOnceTakesAtMut, proved_at, leaves, fm}
use denote.MutBor.{MutBor}
use Rattle.dash_shard.specs.inner.Locks.Holding.{Fixed, offset, at_home, writer, kept, hold_owns}
use Rattle.dash_shard.specs.contracts.lock.hold.Hold as hold
use Rattle.dash_shard.proofs.lock.hold.apply.Met as apply
use Rattle.dash_shard.proofs.Locks.Changing as changing
use Rattle.dash_shard.proofs.Locks.HoldFields.{lent, bits_of, told, owns_placed}
use Rattle.dash_shard.specs.contracts.lock.hold.Hold.change.{ended, clauses}
use Rattle.dash_shard.specs.contracts.lock.hold.Hold.change.Key.{name as #self}
use Rattle.dash_shard.proofs.lock.hold.Hold.change.Statement.{statement}
use Rattle.dash_shard.proofs.lock.hold.Hold.change.Code as code

pub change_spec : {M : Type 1} → statement M
change_spec 𝓤 𝓛 𝓜 𝓡 wired X Y Z W L _ LZ LW g d gf df dd _ meets_f meets_drop =
    let H = 𝓛.H in let 𝓣 = tables 𝓤 H 𝓜 𝓡 𝓡.env in let R : RattleType = param 0 X in let G : RattleType = param 1 Y in let En = ended X Y Z W g d gf df dd in let c = clauses X Y Z W g d gf df dd 𝓛 𝓜.mem 𝓡.returns in
    let EZ : El = record { row = Z; laws = LZ } in let EW : El = record { row = W; laws = LW } in
    let inst = bounded (a_type ∷ a_type ∷ a_type ∷ a_type ∷ []) (X, (Y, (Z, (W, tt)))) (dcons d (dcons df (dcons dd dnil))) in let fn = inst_fn inst code.function in let closed = code.unfolded 𝓤 H 𝓜 𝓡 wired (X, (Y, (Z, (W, tt)))) d df dd in let LR = param_laws 0 X L in
    let row = plain (λ κs. hold.the_row (named_lft 6 1 tt κs) R G g) in let item = plain (λ _. param 3 W) in
    let hs : Stays En.signature.params En.kept = (stay_ref (0 ∷ []) tt row, (stay_dropped item no, tt)) in
    let App = changing.App 𝓛 X Z W gf df dd 𝓜.mem 𝓡.returns in let applies = apply.met 𝓤 𝓛 𝓜 𝓡 (code.calls-dash_shard::lock::hold::apply 𝓡.env wired) X Z W L LZ LW gf df dd meets_f meets_drop in
    proved_at 𝓛 En hs c 𝓜 𝓡 (Goes-ref 𝓛 6 0 tt row, (Goes-dropped 𝓛 6 item no (λ κs x f. refl), tt)) (#self inst) fn closed (λ z are.
    let κs = z.0.0 in let qs = z.0.1 in let a = z.0.3 in let ℓ = named_lft 6 1 tt κs in let Hr : RattleType = hold.the_row ℓ R G g in let h : Hr.Denot = a.0.now in let sb : ℕ = a.0.ref_ptr.0 in let so : ℕ = a.0.ref_ptr.1 in
    let p : Ptr = h.cell in let b : ℕ = block_of p in let o : ℕ = count_of p in let κ : Lft = κs.0 in let β : Lft = κs.1.0 in let q : Share = qs.1.0 in let x : X.Denot = h.value in
    let ok = g.fits h.tag in let f : W.Denot = a.1.0 in let τ : Lft = κs.1.1.0 in let r : Share = qs.1.1.0 in let e : ℕ = o + offset R in
    let χ : Lft = κs.1.1.1.0 in let rχ : Share = qs.1.1.1.0 in let ρ : Lft = κs.1.1.1.1.0 in let rρ : Share = qs.1.1.1.1.0 in let φ : Lft = κs.1.1.1.1.1.0 in let rφ : Share = qs.1.1.1.1.1.0 in
    let got = one EW z.0.4.1.0 ((lawful EW 𝓛).typed f z.0.4.1.0 are.1.0) in let vf : Val = got.0 in let ff : Good EW vf = got.2 in let me : List Val = mut_vals a.0 in
    let At : List Val × (List Val × Unit {0}) → (walk_of 𝓛 En hs c).Ghost = λ vss. ((κs, qs, z.0.2, a, vss), z.1) in
    let y : (walk_of 𝓛 En hs c).Ghost = At (me, (vf ∷ [], tt)) in let Post : Val → SProp 𝓤 = (walk_of 𝓛 En hs c).post y in
    let Takes : X.Denot → Type 0 = FnOnceTakesAtMut {F = W.Denot} {T = X.Denot} {R = Z.Denot × (MutBor X.Denot × Unit {0})} gf f in let Calls : Type 0 = Takes x in
    let Runs : X.Denot → Z.Denot → X.Denot → Type 0 = FnOnceReturnsAtMut {F = W.Denot} {T = X.Denot} {R = Z.Denot} gf f in let Keeps : Type 0 = (j : X.Denot) (k : Z.Denot) → ok x → Runs x k j → ok j in
    subst (λ (vss : List Val × (List Val × Unit {0})). ent 𝓤 ((walk_of 𝓛 En hs c).pre (At vss)) (WpFn 𝓤 H 𝓣.C 𝓣.Λ fn ((walk_of 𝓛 En hs c).args (At vss)) ((walk_of 𝓛 En hs c).post (At vss))))
    (λ i. (sym (mut_Tells (named 0) κ Hr a.0 z.0.4.0 are.0) i, (sym got.1 i, tt))) (
    qed 𝓛 (((‵ (flft κ qs.0) ⊛ ‵ (flft β q) ⊛ ‵ (flft τ r) ⊛ ‵ (flft χ rχ) ⊛ ‵ (flft ρ rρ) ⊛ ‵ (flft φ rφ) ⊛ ‵ ftrue) ⊛ ‵ (owns (types_at En.signature.params κs) a y.0.4))
    ∷ raw (fact 𝓤 (τ ⊑ X.lives)) ∷ raw (fact 𝓤 _) ∷ raw (fact 𝓤 (ρ ⊑ Z.lives)) ∷ raw (fact 𝓤 (φ ⊑ W.lives)) ∷ raw (fact 𝓤 (h.right ≡ 2)) ∷ raw (fact 𝓤 Calls) ∷ raw (fact 𝓤 Keeps) ∷ []) ∵
    move ! (1 ∷ 3 ∷ 4 ∷ 5 ∷ 6 ∷ 7 ∷ []) $ heard ! (τ ⊑ X.lives) (λ le. heard ! (ρ ⊑ Z.lives) (λ le_out. heard ! (φ ⊑ W.lives) (λ le_fn. heard ! (h.right ≡ 2) (λ asked. heard ! Calls (λ calls. heard ! Keeps (λ keeps.
    move ! (1 ∷ []) $ drop ! $ split ! $ split3 ! $ move ! (2 ∷ []) $ split3 ! $ move ! (2 ∷ []) $ split3 ! $ move ! (7 ∷ []) $ fsplit3 ! $ keep ! (0 ∷ 1 ∷ 3 ∷ 4 ∷ 6 ∷ 7 ∷ 8 ∷ 9 ∷ []) $
    -- [self; f; ρ; φ; τ; χ; κ; β]
    enter ! 𝓣.C 𝓣.Λ fn (vptr sb so ∷ vf ∷ []) Post $ alloc_all ! (λ l. pass_all ! refl ((tt, tt), (ff, tt)) $ let Ev = env fn.locals l in
    fsplit3 ! $ move ! (1 ∷ 2 ∷ 8 ∷ []) $ opens ! tt Hr sb so (λ us. move ! (1 ∷ []) $ peeks ! Hr (Is Hr) (shows 𝓛 Hr) h us (λ is_self. fsplit ! $ move ! (1 ∷ []) $
    use1 𝓛 (given (InBlock p) (‵ (hold_owns β R ok p h.right x))) (owns_placed 𝓛 β R ok p h.right x) $ learn ! (λ inb. let at : p ≡ block_ptr b o = at_block p inb in
    rewrite ! 0 (λ (z : Ptr × ℕ). ‵ (hold_owns β R ok z.0 z.1 x)) (λ i. (at i, asked i)) refl $
    let word : us ≡ bits_of (block_ptr b o) ∷ [] = told ℓ R G g p us is_self.0 ∙ ap (λ (r : Ptr). bits_of r ∷ []) at in rewrite ! 2 (λ (ws : List Val). ‵ (cell_at full_share Hr.mir ws sb so)) word refl $
    fpick ! (λ t. fsplit ! $ fsplit ! $ move ! (2 ∷ []) $
    -- the value's borrow
    fsplit ! $ move ! (1 ∷ []) $ fsplit ! $ nothing ! $ move ! (2 ∷ 1 ∷ 0 ∷ []) $
    move ! (4 ∷ []) $ use1 𝓛 (‵ (before β t.life) ⊛ ‵ (before β t.life)) (before_dup 𝓛 β t.life) $ split ! $ move ! (0 ∷ 18 ∷ []) $
    use2 𝓛 (lent 𝓛 t.life β q) (Lends-one 𝓛 𝓜 𝓡 β t.life q) $ await ! tt $ pick ! (λ s. split ! $
    move ! (3 ∷ 0 ∷ []) $ bor_open ! tt $ move ! (1 ∷ []) $ fpick ! (λ old. fsplit ! $ fsplit ! $ move ! (1 ∷ []) $ fpick ! (λ fit. drop ! $
    move ! (5 ∷ 1 ∷ []) $ name_agree ! R.coded (λ same.
    -- [the observation; its authority; the value; the open borrow; the way back; before; seen; out; the invariant; the fields; self's cell; three of self; self's first; f; ρ; φ; τ; χ]
    first ! $ blocks ! $ sets ! (addr ! (through ! refl (fld ! refl (hop ! (look_in ! 10 (sub ! 0 refl (whole !))) (fld ! refl (stop !)))))) refl (tt, tt) $
    sets ! (addr ! (through ! refl (stop !))) refl (tt, tt) $ sets ! (of_opd ! (get ! refl)) refl ff $
    -- the value is lent
    move ! (2 ∷ 18 ∷ []) $ use2 𝓛 (later (some (λ (u : ℕ × Share × GName). ‵ (changing.Own 𝓛 R τ r b e old u.0 u.2) ⊛ ‵ (flft (u.0 ∷ τ) u.1) ⊛ raw (changing.Way 𝓛 R τ r b e u.0 u.1) ⊛ ‵ (flent (u.0 ∷ τ) (Body (mem R) b e u.2))))) (changing.lends 𝓛 R τ r b e old) $ await ! tt $ pick ! (λ u.
    split3 ! $ move ! (2 ∷ []) $ split ! $ let ν : Lft = u.0 ∷ τ in let j : Share = u.1 in let δ : GName = u.2 in
    -- [the way back to the tokens; the lender's part; the reference; ν; ..; f; ρ; φ; χ]
    move ! (2 ∷ 3 ∷ 18 ∷ 19 ∷ 20 ∷ []) $ group ! 5 $
    let call : App.Ghost = changing.at 𝓛 X Z W gf df dd 𝓜.mem 𝓡.returns ν ρ φ j rρ rφ b e δ old f vf in
    use1 𝓛 (raw (App.pre call)) (changing.asks 𝓛 X Z W gf df dd 𝓜.mem 𝓡.returns ν ρ φ j rρ rφ b e δ old f vf (Incl-trans (meet_⊑_right (u.0 ∷ []) τ) le) le_out le_fn (subst Takes same calls)) $
    calls_at_last ! (fm 𝓛 𝓜 𝓡) App applies call (and_then ! (get ! refl) (and_then ! (get ! refl) (no_more !))) (λ vr.
    use1 𝓛 (later (some (λ (z : Z.Denot × X.Denot). given (changing.Ran 𝓛 X Z W gf df dd 𝓜.mem 𝓡.returns ν ρ φ j rρ rφ b e δ old f vf z.0 z.1) (‵ (Z.own_val z.0 (vr ∷ [])) ⊛ ‵ (flft ν j) ⊛ ‵ (flft ρ rρ) ⊛ ‵ (flft φ rφ) ⊛ ‵ (fres δ (X.coded.code z.1))))))
    (changing.gives 𝓛 X Z W gf df dd 𝓜.mem 𝓡.returns ν ρ φ j rρ rφ b e δ old f vf vr) $ await ! tt $ pick ! (λ out. let res : Z.Denot = out.0 in let x' : X.Denot = out.1 in learn ! (λ ran.
    split3 ! $ move ! (2 ∷ []) $ split3 ! $
    -- [ρ; φ; the last value; the result; ν; the way back to the tokens; the lender's part; the observation; ..; χ]
    move ! (3 ∷ []) $ peeks ! (param 2 Z) (Is (param 2 Z)) (shows 𝓛 (param 2 Z)) res (vr ∷ []) (λ is_out. let typed = (lawful EZ 𝓛).typed res (vr ∷ []) is_out in
    lands_last ! refl typed.0 $ exec ! 𝓣.C 𝓣.Λ Ev (tail fn.body) (at_ret Ev Post) $ sets ! (of_opd ! (get ! refl)) refl typed.0 $
    move ! (4 ∷ 5 ∷ 6 ∷ 3 ∷ []) $ group ! 4 $ use1 𝓛 (later (‵ (part_at R full_share x' b e) ⊛ ‵ (flft τ r))) (changing.back 𝓛 R τ r b e u.0 j δ x') $ await ! tt $ split ! $
    -- [the value; τ; the result; ρ; φ; the observation; its authority; the open borrow; the way back; before; seen; out; the invariant; the fields; self's cell; three of self; self's first; χ]
    move ! (5 ∷ 6 ∷ []) $ name_set ! tt (R.coded.code x') $
    let ran' : Runs x res x' = subst (λ (i : X.Denot). Runs i res x') (sym same) ran in let fit' : ok x' = keeps x' res (subst ok (sym same) fit) ran' in
    nothing ! $ fpack ! (ok x') (λ _. ftrue) fit' $ move ! (3 ∷ 0 ∷ []) $ fjoin ! $ move ! (0 ∷ 2 ∷ []) $ fjoin ! $
    fpack ! X.Denot (at_home R ok b o t.track) x' $ move ! (6 ∷ 0 ∷ []) $ obor_close ! tt $ move ! (2 ∷ 0 ∷ []) $ fjoin ! $
    -- [the value; the lock's token; τ; the result; ρ; φ; the way back; before; seen; out; the invariant; the fields; self's cell; three of self; self's first; χ]
    move ! (9 ∷ 0 ∷ []) $ fjoin ! $ move ! (1 ∷ 6 ∷ []) $ use2 𝓛 (later (‵ (flft β q))) (apply∗ 𝓤 (𝓛.A.lft t.life s) (H.⇛ (𝓛.A.lft β q))) $ await ! tt $
    move ! (6 ∷ 8 ∷ []) $ fjoin ! $ move ! (0 ∷ 2 ∷ []) $ fjoin ! $ fpack ! (Fixed R.Denot) (λ z. fsep (kept R ok b o z β) (writer R ok b o z x')) t $ rewrite ! 0 (λ (z : Ptr). ‵ (hold_owns β R ok z 2 x')) (sym at) refl $
    let h' : Hr.Denot = record { cell = p; marker = record {}; tag = h.tag; right = 2; value = x' } in
    move ! (7 ∷ 0 ∷ []) $ fjoin ! $ rewrite ! 7 (λ (ws : List Val). ‵ (cell_at full_share Hr.mir ws sb so)) (sym word) refl $ move ! (7 ∷ 0 ∷ 8 ∷ 9 ∷ 10 ∷ []) $ closes ! tt Hr h' us sb so $
    -- [two parts of self; κ; β; τ; the result; ρ; φ; seen; self's first; χ]
    move ! (9 ∷ 0 ∷ 1 ∷ []) $ fjoin3 ! $ nothing ! $ nothing ! $ fjoin ! $ move ! (1 ∷ 0 ∷ []) $ fjoin ! $
    -- [self; κ; β; τ; the result; ρ; φ; seen; χ]
    nothing ! $ move ! (7 ∷ 0 ∷ []) $ join ! $ move ! (6 ∷ 0 ∷ []) $ join ! $ move ! (7 ∷ 0 ∷ []) $ join ! $ move ! (4 ∷ 0 ∷ []) $ join ! $ move ! (3 ∷ 0 ∷ []) $ join ! $ move ! (2 ∷ 0 ∷ []) $ join ! $
    let Same : Type 0 = (h'.tag ≡ h.tag) × (h'.right ≡ 2) in use0 𝓛 (raw (fact 𝓤 (ok x'))) (fact_i 𝓤 (ok x') (emp 𝓤) fit') $ use0 𝓛 (raw (fact 𝓤 (Runs x res x'))) (fact_i 𝓤 (Runs x res x') (emp 𝓤) ran') $ join ! $
    use0 𝓛 (raw (fact 𝓤 Same)) (fact_i 𝓤 Same (emp 𝓤) (refl, refl)) $ join ! $
    -- [the facts; the tokens; self; the result; seen]
    returns ! (look_at ! 0 refl) $ free_all ! refl $ keep ! (1 ∷ 2 ∷ 3 ∷ 0 ∷ []) $ by ! (leaves 𝓛 En hs c y vr res (h', (tt, tt)) (tt, (tt, tt)))))))))))))))))))))))))
