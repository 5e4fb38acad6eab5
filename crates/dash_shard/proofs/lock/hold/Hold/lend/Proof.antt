-- `lend` lends a part of the value in place, for as long as the hold is borrowed. Whatever is left there, the value fits.
use Rattle.dash_shard.proofs.Locks.Walking.{[], ◌≡◌, ℕ, ◌+◌, ◌^◌, List, ◌∷◌, sym, refl, ap, ◌∙◌, w64, dcons, dnil, a_type, named, Val, vint, vptr, inst_fn, full_share, emp, SProp, Lft, Share, GName, ftrue, fsep, flft, fobs, fbor, Body, ‵, raw, ◌⊛◌, some, given, later, at_ret, ◌$◌, ◌∵◌, !, qed, by, move, keep, split, split3, join, fsplit, fsplit3, fjoin, pick, learn, use0, use1, use2, use3, await, rewrite, stop, fld, hop, addr, of_opd, no_more, and_then, first, blocks, exec, returns, enter, alloc_all, pass_all, free_all, look_at, get, through, sets, lands_last, env, sub, whole, look_in, tables, fact, fact_i, feq_i, flt_i, ◌⊑◌, no, yes, Is, shows, cell_at, param, bounded, RattleType, owns, Ptr, InBlock, block_ptr, block_of, count_of, at_block, mut_vals, mut_Tells, uint_vals, uint_Tells, types_at, plain, named_lft, nothing, peeks, heard, opens, closes, calls_at_last, Stays, stay_dropped, walk_of, Goes-dropped, Goes-spent_ref, RefMutOf, MutRef, ShrRef, tail, proved, leaves, fm, triple_of, id⊢}
use base.Share
use denote.MutBor.{MutBor}
use denote.Builtin.{usize}
use denote.Bor.{Bor}
use denote.Struct.Tuple.{Tuple}
use Rattle.std.specs.Map.Iter.{deref_pair_mut}
use Rattle.dash_shard.proofs.Locks.Fitting.{pair_typed}
use denote.Follow.{follows, follows_then}
use Rattle.std.specs.Prelude.{Some}
use Rattle.dash_shard.specs.inner.Locks.Holding.{offset, hold_owns}
use Rattle.dash_shard.specs.inner.Locks.Lending.{with_held}
use Rattle.dash_shard.specs.contracts.lock.hold.Hold as hold
use Rattle.dash_shard.specs.contracts.lock.hold.pair_of as pair
use Rattle.dash_shard.proofs.lock.hold.pair_of.Met as pair-thm
use Rattle.dash_shard.proofs.Locks.HoldFields.{bits_of, told, owns_placed}
use Rattle.dash_shard.proofs.Locks.Fitting.{Fit, Owed, Own, lent_as, lends_fit, shuts_fit}
use Rattle.dash_shard.proofs.Locks.Handing.{handed}
use Rattle.dash_shard.specs.contracts.lock.hold.Hold.lend.{ended, clauses}
use Rattle.dash_shard.specs.contracts.lock.hold.Hold.lend.Key.{name as #self}
use Rattle.dash_shard.proofs.lock.hold.Hold.lend.Statement.{statement}
use Rattle.dash_shard.proofs.lock.hold.Hold.lend.Code as code

pub lend_spec : {M : Type 1} → statement M
lend_spec 𝓤 𝓛 𝓜 𝓡 wired X K V Y LX LK LV LY gl dl g d meets meets_tag =
    let H = 𝓛.H in let 𝓣 = tables 𝓤 H 𝓜 𝓡 𝓡.env in let R : RattleType = param 0 X in let Q : RattleType = param 1 K in let P : RattleType = param 2 V in let G : RattleType = param 3 Y in let En = ended X K V Y gl dl g d in let c = clauses X K V Y gl dl g d 𝓛 𝓜.mem 𝓡.returns in
    let inst = bounded (a_type ∷ a_type ∷ a_type ∷ a_type ∷ []) (X, (K, (V, (Y, tt)))) (dcons dl (dcons d dnil)) in let fn = inst_fn inst code.function in let closed = code.unfolded 𝓤 H 𝓜 𝓡 wired (X, (K, (V, (Y, tt)))) dl d in
    let row = plain (λ κs. hold.the_row (named_lft 6 1 tt κs) R G g) in let self = RefMutOf (0 ∷ []) tt row (λ _. tt) in let number = plain (λ _. usize) in
    let hs : Stays En.signature.params En.kept = (stay_dropped self no, (stay_dropped number yes, tt)) in
    let App = triple_of 𝓛 (pair.signature X K V Y) (pair.spec X K V Y gl dl g d 𝓛 𝓜.mem 𝓡.returns) in let meant = pair-thm.met 𝓤 𝓛 𝓜 𝓡 (code.calls-dash_shard::lock::hold::pair_of 𝓡.env wired) X K V Y LX LK LV LY gl dl g d meets meets_tag in
    proved 𝓛 En hs c 𝓜 𝓡 (Goes-spent_ref 𝓛 6 (0 ∷ []) tt row, (Goes-dropped 𝓛 6 number yes (λ κs x f. refl), tt)) (#self inst) fn closed
    (λ κs. (mut_vals, (uint_vals w64, tt))) (λ κs. (mut_Tells (named 0) κs.0 (hold.the_row (named_lft 6 1 tt κs) R G g), (uint_Tells w64, tt))) (λ κs qs bounds a gh are.
    let ℓ = named_lft 6 1 tt κs in let Hr : RattleType = hold.the_row ℓ R G g in let h : Hr.Denot = a.0.now in let sb : ℕ = a.0.ref_ptr.0 in let so : ℕ = a.0.ref_ptr.1 in let γ : GName = a.0.ghost_name in let i : ℕ = a.1.0 in
    let p : Ptr = h.cell in let b : ℕ = block_of p in let o : ℕ = count_of p in let x : X.Denot = h.value in let ok = g.fits h.tag in let e : ℕ = o + offset R in
    let κ : Lft = κs.0 in let q : Share = qs.0 in let β : Lft = κs.1.0 in let τ : Lft = κs.1.1.0 in let r : Share = qs.1.1.0 in let η : Lft = κs.1.1.1.0 in let rη : Share = qs.1.1.1.0 in let π : Lft = κs.1.1.1.1.0 in let rπ : Share = qs.1.1.1.1.0 in let θ : Lft = κs.1.1.1.1.1.0 in let rθ : Share = qs.1.1.1.1.1.0 in
    let Out : RattleType = Tuple (ShrRef (named 0) κ Q ∷ MutRef (named 0) κ P ∷ []) in
    let put : V.Denot → X.Denot = gl.with x i in let Has : Type 0 = gl.has x i in let Keeps : Type 0 = (tag : Y.Denot) (w : V.Denot) → g.fits tag x → g.fits tag (put w) in let Kept : Type 0 = (w : V.Denot) → ok (put w) in let Stays-in : Type 0 = (w : V.Denot) (j : ℕ) → gl.has x j → gl.has (put w) j in
    let y : (walk_of 𝓛 En hs c).Ghost = ((κs, qs, bounds, a, (vptr sb so ∷ [], (vint w64 i ∷ [], tt))), gh) in let Post : Val → SProp 𝓤 = (walk_of 𝓛 En hs c).post y in
    qed 𝓛 (((‵ (flft κ q) ⊛ ‵ (flft β qs.1.0) ⊛ ‵ (flft τ r) ⊛ ‵ (flft η rη) ⊛ ‵ (flft π rπ) ⊛ ‵ (flft θ rθ) ⊛ ‵ ftrue) ⊛ ‵ (owns (types_at En.signature.params κs) a y.0.4))
    ∷ raw (fact 𝓤 (τ ⊑ X.lives)) ∷ raw (fact 𝓤 (η ⊑ K.lives)) ∷ raw (fact 𝓤 (π ⊑ V.lives)) ∷ raw (fact 𝓤 (θ ⊑ Y.lives)) ∷ raw (fact 𝓤 (h.right ≡ 2)) ∷ raw (fact 𝓤 Has) ∷ []) ∵
    move ! (1 ∷ 2 ∷ 3 ∷ 4 ∷ 5 ∷ 6 ∷ []) $ heard ! (τ ⊑ X.lives) (λ lx. heard ! (η ⊑ K.lives) (λ lk. heard ! (π ⊑ V.lives) (λ lv. heard ! (θ ⊑ Y.lives) (λ ly. heard ! (h.right ≡ 2) (λ asked. heard ! Has (λ has.
    split ! $ split3 ! $ move ! (2 ∷ []) $ split3 ! $ move ! (2 ∷ []) $ split3 ! $ move ! (7 ∷ []) $ fsplit3 ! $ keep ! (0 ∷ 8 ∷ 9 ∷ 6 ∷ 7 ∷ 3 ∷ 4 ∷ []) $
    -- [self; κ; β; τ; π; θ]
    enter ! 𝓣.C 𝓣.Λ fn (vptr sb so ∷ vint w64 i ∷ []) Post $ alloc_all ! (λ l. pass_all ! refl ((tt, tt), ((tt, record { fits = are.1.0.1 }), tt)) $ let Ev = env fn.locals l in
    fsplit3 ! $ move ! (1 ∷ 2 ∷ 3 ∷ []) $ opens ! tt Hr sb so (λ us. move ! (1 ∷ []) $ peeks ! Hr (Is Hr) (shows 𝓛 Hr) h us (λ is_self. fsplit ! $ move ! (1 ∷ []) $
    use1 𝓛 (given (InBlock p) (‵ (hold_owns β R ok p h.right x))) (owns_placed 𝓛 β R ok p h.right x) $ learn ! (λ inb. let at : p ≡ block_ptr b o = at_block p inb in
    let word : us ≡ bits_of (block_ptr b o) ∷ [] = told ℓ R G g p us is_self.0 ∙ ap (λ (z : Ptr). bits_of z ∷ []) at in rewrite ! 2 (λ (ws : List Val). ‵ (cell_at full_share Hr.mir ws sb so)) word refl $
    -- [what the hold owns; the fields; self's cell; three of self; self's first; β; τ; π; θ]
    first ! $ blocks ! $ sets ! (addr ! (through ! refl (fld ! refl (hop ! (look_in ! 2 (sub ! 0 refl (whole !))) (fld ! refl (stop !)))))) refl (tt, tt) $ sets ! (addr ! (through ! refl (stop !))) refl (tt, tt) $
    rewrite ! 2 (λ (ws : List Val). ‵ (cell_at full_share Hr.mir ws sb so)) (sym word) refl $ move ! (1 ∷ 0 ∷ []) $ fjoin ! $ move ! (1 ∷ 0 ∷ 2 ∷ 3 ∷ 4 ∷ []) $ closes ! tt Hr h us sb so $
    -- [the observation; the borrow; κ; self's first; β; τ; π; θ]
    use3 𝓛 (later (some (λ (δ : GName). ‵ (fobs δ (R.coded.code x)) ⊛ ‵ (fbor κ (Body (Fit 𝓛 R ok) b e δ)) ⊛ ‵ (flft κ q) ⊛ ‵ (follows Hr R γ δ (with_held h))))) (handed 𝓛 ℓ R G g h b o sb so at asked κ bounds.0 q γ) $ await ! tt $ pick ! (λ δ. split3 ! $ move ! (2 ∷ []) $ split ! $
    move ! (2 ∷ 3 ∷ 0 ∷ []) $ use3 𝓛 (later (given (ok x) (some (λ (u : ℕ × GName). ‵ (Own 𝓛 R ok κ q b e δ x u.1) ⊛ ‵ (flft κ (Share.left q)) ⊛ raw (Owed 𝓛 R ok κ q b e δ x u))))) (lends_fit 𝓛 R ok κ q b e δ x) $ await ! tt $ learn ! (λ fit. pick ! (λ u. split3 ! $
    -- [the reference; half of κ; what is owed; how the hold follows the value; self's first; β; τ; π; θ]
    let call : App.Ghost = (((κ, (τ, (η, (π, (θ, tt))))), (Share.left q, (r, (rη, (rπ, (rθ, tt))))), (bounds.1.0, (bounds.1.1.1.0, (bounds.1.1.1.1.0, tt))), (lent_as 𝓛 R ok κ q b e δ x u.1, (i, tt)), (vptr b e ∷ [], (vint w64 i ∷ [], tt))), tt) in
    use0 𝓛 (raw (fact 𝓤 Has)) (fact_i 𝓤 Has (emp 𝓤) has) $ use0 𝓛 (raw (fact 𝓤 (θ ⊑ Y.lives))) (fact_i 𝓤 (θ ⊑ Y.lives) (emp 𝓤) ly) $ join ! $ use0 𝓛 (raw (fact 𝓤 (π ⊑ V.lives))) (fact_i 𝓤 (π ⊑ V.lives) (emp 𝓤) lv) $ join ! $
    use0 𝓛 (raw (fact 𝓤 (η ⊑ K.lives))) (fact_i 𝓤 (η ⊑ K.lives) (emp 𝓤) lk) $ join ! $ use0 𝓛 (raw (fact 𝓤 (τ ⊑ X.lives))) (fact_i 𝓤 (τ ⊑ X.lives) (emp 𝓤) lx) $ join ! $
    -- [the facts; the reference; half of κ; what is owed; how the hold follows; self's first; β; τ; π; θ]
    nothing ! $ flt_i ! i (2 ^ 64) are.1.0.1 $ feq_i ! (List Val) (vint w64 i ∷ []) (vint w64 i ∷ []) refl $ fjoin ! $ fjoin ! $ move ! (2 ∷ 0 ∷ []) $ fjoin ! $
    -- [what is passed; the facts; half of κ; what is owed; how the hold follows; self's first; β; τ; π; θ]
    nothing ! $ move ! (11 ∷ 0 ∷ []) $ join ! $ move ! (10 ∷ 0 ∷ []) $ join ! $ move ! (9 ∷ 0 ∷ []) $ join ! $ move ! (8 ∷ 0 ∷ []) $ join ! $ move ! (3 ∷ 0 ∷ []) $ join ! $ join ! $ join ! $ use1 𝓛 (raw (App.pre call)) (id⊢ 𝓤 _) $
    calls_at_last ! (fm 𝓛 𝓜 𝓡) App meant call (and_then ! (get ! refl) (and_then ! (get ! refl) (no_more !))) (λ vr.
    use1 𝓛 (later (some (λ (z : Bor K.Denot × MutBor V.Denot). ((‵ (flft κ (Share.left q)) ⊛ ‵ (flft τ r) ⊛ ‵ (flft η rη) ⊛ ‵ (flft π rπ) ⊛ ‵ (flft θ rθ) ⊛ ‵ ftrue) ⊛ ‵ (Out.own_val z (vr ∷ [])))
    ⊛ some (λ (_ : Unit {0} × (Unit {0} × Unit {0})). ‵ (fsep ftrue (fsep ftrue ftrue)) ⊛ (‵ (follows R P u.1 z.1.ghost_name put) ⊛ (raw (fact 𝓤 (gl.pair x i ≡ Some (deref_pair_mut z))) ⊛ (raw (fact 𝓤 Keeps) ⊛ raw (fact 𝓤 Stays-in)))))))) (id⊢ 𝓤 _) $ await ! tt $ pick ! (λ z.
    split ! $ split ! $ move ! (2 ∷ []) $ pick ! (λ _. split ! $ move ! (1 ∷ []) $ split ! $ move ! (1 ∷ []) $ split ! $ move ! (1 ∷ []) $ split ! $ heard ! Keeps (λ keeps. heard ! Stays-in (λ stays. move ! (1 ∷ []) $
    -- [how the value follows; the fact; nothing; the tokens; the result; what is owed; how the hold follows; self's first; β]
    move ! (4 ∷ []) $ peeks ! Out (Is Out) (shows 𝓛 Out) z (vr ∷ []) (λ is_out. let typed = pair_typed κ Q P z (vr ∷ []) is_out in
    lands_last ! refl typed.0 $ exec ! 𝓣.C 𝓣.Λ Ev (tail fn.body) (at_ret Ev Post) $ sets ! (of_opd ! (get ! refl)) refl typed.0 $
    -- [the result; how the value follows; the fact; nothing; the tokens; what is owed; how the hold follows; self's first; β]
    move ! (5 ∷ 1 ∷ []) $ use2 𝓛 (later (‵ (flft κ (Share.right q)) ⊛ ‵ (follows R P δ z.1.ghost_name put))) (shuts_fit 𝓛 R ok κ q b e δ x P put (λ w. keeps h.tag w fit) u z.1.ghost_name) $ await ! tt $ split ! $
    -- [half of κ; how the value follows; the result; the fact; nothing; the tokens; how the hold follows; self's first; β]
    move ! (5 ∷ []) $ split3 ! $ move ! (0 ∷ 3 ∷ []) $ use2 𝓛 (‵ (flft κ q)) (𝓛.lfts.lft_join κ q) $ move ! (1 ∷ 2 ∷ []) $ join ! $ move ! (8 ∷ 0 ∷ []) $ join ! $ move ! (1 ∷ 0 ∷ []) $ join ! $
    -- [the tokens; how the value follows; the result; the fact; nothing; how the hold follows]
    move ! (5 ∷ 1 ∷ []) $ use2 𝓛 (‵ (follows Hr P γ z.1.ghost_name (λ w. with_held h (put w)))) (follows_then 𝓛 Hr R P (with_held h) put γ δ z.1.ghost_name) $ use0 𝓛 (raw (fact 𝓤 Stays-in)) (fact_i 𝓤 Stays-in (emp 𝓤) stays) $ use0 𝓛 (raw (fact 𝓤 Kept)) (fact_i 𝓤 Kept (emp 𝓤) (λ w. keeps h.tag w fit)) $ join ! $ move ! (4 ∷ 0 ∷ []) $ join ! $ move ! (1 ∷ 0 ∷ []) $ join ! $ nothing ! $ nothing ! $ fjoin ! $ nothing ! $ fjoin ! $
    -- [the parameters; what is ensured; the tokens; the result]
    returns ! (look_at ! 0 refl) $ free_all ! refl $ keep ! (2 ∷ 0 ∷ 3 ∷ 1 ∷ []) $ by ! (leaves 𝓛 En hs c y vr z (tt, (tt, tt)) (tt, (tt, tt)))))))))))))))))))))))
