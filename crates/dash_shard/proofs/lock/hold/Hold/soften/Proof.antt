-- `soften` begins a round, and gives all but one part of it back at the AND.
use Rattle.dash_shard.proofs.Locks.Walking.{[], ◌++◌, ◌≡◌, ℕ, ◌+◌, ◌^◌, List, ◌∷◌, refl, ap, lit<, w64, dcons, dnil, a_type, Val, vint, vptr, vstruct, vcons, vnil, of_list, inst_fn, SProp, emp, via, apply∗, Lft, Share, Fml, ftrue, fsep, feq, flft, fex, fbor, finv, before, Incl-refl, ‵, raw, ◌⊛◌, given, later, mean, at_ret, ◌$◌, ◌∵◌, !, qed, by, move, keep, split, split3, group, join, fsplit, fjoin, fjoin3, fpick, fpack, pick, learn, use0, use1, use2, use3, await, rewrite, feq_i, flt_i, stop, fld, addr, lit, of_opd, no_more, and_then, first, blocks, exec, Calls-last, returns, enter, alloc_all, pass_all, free_all, look_at, get, get_in, through, sets, lands_last, is, env, agg, sub, whole, before_dup, tables, fact, fact_i, Lends-one, no, RattleType, Valss, owns, types_at, plain, named_lft, Ptr, InBlock, block_ptr, ptr_val, block_of, count_of, at_block, nothing, heard, param, bounded, param_laws, u64, ◌⊑◌, Stays, stay_dropped, walk_of, Goes-dropped, tail, proved, leaves, fm, seq_cst, found, finds, drop}
use Rattle.core.specs.Prelude.{bit_and}
use Rattle.dash_shard.specs.declared.lock.word.LockEvent.TheVariants.{Downgrade}
use Rattle.dash_behind.specs.Closed.{LeftBehind, left}
use Rattle.dash_shard.specs.LockState.{Steps}
use Rattle.std.proofs.raw_atomic.Calls.{ands}
use Rattle.dash_shard.specs.inner.Locks.Holding.{Fixed, Inv, kept, reader, begun, hold_owns}
use Rattle.dash_shard.proofs.Locks.Rounds.{fresh}
use Rattle.dash_shard.specs.contracts.lock.hold.Hold as hold
use Rattle.dash_shard.proofs.Locks.HoldFields.{lent, bits_of, Words, told, typed, made, owns_placed}
use Rattle.dash_shard.proofs.Locks.WordSteps as steps
use Rattle.dash_shard.specs.contracts.lock.hold.Hold.soften.{ended, clauses}
use Rattle.dash_shard.specs.contracts.lock.hold.Hold.soften.Key.{name as #self}
use Rattle.dash_shard.proofs.lock.hold.Hold.soften.Statement.{statement}
use Rattle.dash_shard.proofs.lock.hold.Hold.soften.Code as code

pub soften_spec : {M : Type 1} → statement M
soften_spec 𝓤 𝓛 𝓜 𝓡 wired X Y L _ g d _ =
    let H = 𝓛.H in let 𝓣 = tables 𝓤 H 𝓜 𝓡 𝓡.env in let R : RattleType = param 0 X in let G : RattleType = param 1 Y in let LR = param_laws 0 X L in let En = ended X Y g d in let c = clauses X Y g d 𝓛 𝓜.mem 𝓡.returns in
    let inst = bounded (a_type ∷ a_type ∷ []) (X, (Y, tt)) (dcons d dnil) in let fn = inst_fn inst code.function in let closed = code.unfolded 𝓤 H 𝓜 𝓡 wired (X, (Y, tt)) d in
    let self = plain (λ κs. hold.the_row (named_lft 3 0 tt κs) R G g) in let hs : Stays En.signature.params En.kept = (stay_dropped self no, tt) in
    proved 𝓛 En hs c 𝓜 𝓡 (Goes-dropped 𝓛 3 self no (λ κs x f. refl), tt) (#self inst) fn closed
    (λ κs. ((λ x. bits_of x.cell ∷ []), tt)) (λ κs. ((λ x vs so. told (named_lft 3 0 tt κs) R G g x.cell vs so.0), tt)) (λ κs qs bounds a gh are.
    let Hr : RattleType = hold.the_row (named_lft 3 0 tt κs) R G g in let h : Hr.Denot = a.0 in let p : Ptr = h.cell in let b : ℕ = block_of p in let o : ℕ = count_of p in let β : Lft = κs.0 in let q : Share = qs.0 in let x : X.Denot = h.value in let others : Fml = fsep (flft κs.1.0 qs.1.0) (fsep (flft κs.1.1.0 qs.1.1.0) ftrue) in let ok = g.fits h.tag in
    let y : (walk_of 𝓛 En hs c).Ghost = ((κs, qs, bounds, a, (bits_of p ∷ [], tt)), gh) in let Post : Val → SProp 𝓤 = (walk_of 𝓛 En hs c).post y in
    qed 𝓛 (((‵ (flft β q) ⊛ ‵ others) ⊛ ‵ (owns (types_at En.signature.params κs) a y.0.4)) ∷ raw (fact 𝓤 (κs.1.0 ⊑ X.lives)) ∷ raw (fact 𝓤 _) ∷ raw (fact 𝓤 (h.right ≡ 2)) ∷ []) ∵
    keep ! (1 ∷ 3 ∷ 0 ∷ []) $ heard ! (κs.1.0 ⊑ X.lives) (λ le. heard ! (h.right ≡ 2) (λ asked. split ! $ split ! $ move ! (2 ∷ []) $ fsplit ! $ fsplit ! $ keep ! (1 ∷ 3 ∷ 4 ∷ []) $
    -- [what the hold owns; β; the other tokens]
    use1 𝓛 (given (InBlock p) (‵ (hold_owns β R ok p h.right x))) (owns_placed 𝓛 β R ok p h.right x) $ learn ! (λ inb. let at : p ≡ block_ptr b o = at_block p inb in
    rewrite ! 0 (λ (z : Ptr × ℕ). ‵ (hold_owns β R ok z.0 z.1 x)) (λ i. (at i, asked i)) refl $
    enter ! 𝓣.C 𝓣.Λ fn (bits_of p ∷ []) Post $ alloc_all ! (λ l. pass_all ! refl (typed p inb, tt) $ let Ev = env fn.locals l in
    fpick ! (λ t. fsplit ! $ fsplit ! $ move ! (2 ∷ []) $ let J : Fml = fbor t.life (Inv R ok b o t) in
    move ! (1 ∷ []) $ use1 𝓛 (‵ (before β t.life) ⊛ ‵ (before β t.life)) (before_dup 𝓛 β t.life) $ split ! $ move ! (3 ∷ []) $ use1 𝓛 (‵ (finv J) ⊛ ‵ (finv J)) (𝓛.invs.inv_dup J) $ split ! $ move ! (2 ∷ 0 ∷ []) $ fjoin ! $
    -- [kept; the invariant; before; what a writer has; β; the other tokens]
    move ! (2 ∷ 4 ∷ []) $ use2 𝓛 (lent 𝓛 t.life β q) (Lends-one 𝓛 𝓜 𝓡 β t.life q) $ await ! tt $ pick ! (λ s. split ! $
    -- [the lock's token; the way back; kept; the invariant; what a writer has; the other tokens]: a round begins
    let after : ℕ → Fml = λ n. fsep (flft t.life s) (steps.Softened 𝓛 R ok b o t s x n) in let τ : Lft = κs.1.0 in let r : Share = qs.1.0 in
    move ! (4 ∷ []) $ fsplit ! $ move ! (1 ∷ []) $ fsplit ! $ move ! (7 ∷ []) $ fsplit ! $ move ! (2 ∷ 3 ∷ 5 ∷ 0 ∷ []) $ group ! 4 $
    use1 𝓛 (later (‵ (fex ℕ (begun R ok b o t x)) ⊛ ‵ (flft t.life s) ⊛ ‵ (flft τ r))) (fresh 𝓛 R ok b o t R.lives (LR.shares 𝓛) x t.life s τ r (Incl-refl t.life) le) $ await ! tt $ split3 ! $
    -- [the round; the lock's token; τ; the last tokens; out; the way back; kept; the invariant]
    move ! (4 ∷ 0 ∷ []) $ fjoin ! $ move ! (2 ∷ 3 ∷ []) $ fjoin ! $
    sets ! (is ! (of_opd ! (get_in ! (fld ! refl (stop !)) (sub ! 0 refl (whole !)))) (ap ptr_val at)) refl (tt, tt) $ first ! $ blocks ! $ sets ! (addr ! (through ! refl (fld ! refl (stop !)))) refl (tt, tt) $
    -- [the other tokens; the whole round; the lock's token; the way back; kept; the invariant]
    move ! (5 ∷ 2 ∷ 1 ∷ []) $ use3 𝓛 (raw (𝓣.C _ (vptr b (o + 0) ∷ vint w64 6 ∷ seq_cst ∷ []) (λ z. mean 𝓛 (found after z))))
    (via 𝓤 _ (steps.softens 𝓛 R ok b o t s LR.shr_laws x) (ands 𝓛 𝓜 𝓡 (code.calls-core::raw_atomic::fetch_and 𝓡.env wired) (block_ptr b (o + 0)) 6 (lit< tt) after)) $
    sets ! (agg ! (and_then ! (lit ! tt) (no_more !))) refl (tt, (record { fits = lit< tt }, tt)) $
    Calls-last ! (fm 𝓛 𝓜 𝓡) (found after) (and_then ! (get ! refl) (and_then ! (lit ! tt) (and_then ! (get ! refl) (no_more !)))) (λ z. finds ! after (λ n fits.
    lands_last ! refl (tt, record { fits = fits }) $ exec ! 𝓣.C 𝓣.Λ Ev (tail (tail fn.body)) (at_ret Ev Post) $ sets ! (of_opd ! (get ! refl)) refl (tt, record { fits = fits }) $
    sets ! (agg ! (no_more !)) refl (tt, tt) $ sets ! (agg ! (and_then ! (get ! refl) (and_then ! (get ! refl) (no_more !)))) refl (tt, (tt, (tt, tt))) $
    sets ! (of_opd ! (get ! refl)) refl (tt, (tt, (tt, tt))) $ sets ! (agg ! (and_then ! (get ! refl) (and_then ! (get ! refl) (no_more !)))) refl (tt, (record { fits = fits }, ((tt, (tt, tt)), tt))) $
    -- [the token, the event and what a reader has; the other tokens; the way back; kept]
    fsplit ! $ move ! (1 ∷ []) $ fsplit ! $ fpick ! (λ event. drop ! $ move ! (1 ∷ []) $
    -- [the token; what a reader has; the other tokens; the way back; kept]
    move ! (0 ∷ 3 ∷ []) $ use2 𝓛 (later (‵ (flft β q))) (apply∗ 𝓤 (𝓛.A.lft t.life s) (H.⇛ (𝓛.A.lft β q))) $ await ! tt $ move ! (0 ∷ 2 ∷ []) $ join ! $
    -- [the tokens; what a reader has; kept]
    move ! (2 ∷ 1 ∷ []) $ fjoin ! $ fpack ! (Fixed R.Denot) (λ z. fsep (kept R ok b o z β) (reader R ok b o z x)) t $
    let ℓ = named_lft 3 0 tt κs in let h' : Hr.Denot = record { cell = block_ptr b o; marker = record {}; tag = h.tag; right = 1; value = x } in let res : Val = vstruct (vcons (vint w64 n) (vcons (bits_of (block_ptr b o)) vnil)) in
    use0 𝓛 (‵ ((Words ℓ R G g).own_val (block_ptr b o, (tt, tt)) (bits_of (block_ptr b o) ∷ []))) (made ℓ R G g 𝓛 (block_ptr b o)) $ fjoin ! $ nothing ! $ flt_i ! n (2 ^ 64) fits $ feq_i ! (List Val) (vint w64 n ∷ []) (vint w64 n ∷ []) refl $
    move ! (0 ∷ 1 ∷ []) $ fjoin ! $ move ! (0 ∷ 2 ∷ 1 ∷ []) $ fjoin3 ! $ feq_i ! (List Val) (res ∷ []) (res ∷ []) refl $ fjoin ! $
    fpack ! (Valss (u64 ∷ Hr ∷ [])) (λ uss. fsep (feq (List Val) (res ∷ []) (vstruct (of_list (uss.0 ++ (uss.1.0 ++ []))) ∷ [])) (owns (u64 ∷ Hr ∷ []) (n, (h', tt)) uss)) (vint w64 n ∷ [], (bits_of (block_ptr b o) ∷ [], tt)) $
    let Event : Type 0 = Steps Downgrade n (bit_and n 6) in let Same : Type 0 = (h.tag ≡ h.tag) × (x ≡ x) in let Reads : Type 0 = 1 ≡ 1 in
    use0 𝓛 (raw (fact 𝓤 (LeftBehind x))) (fact_i 𝓤 (LeftBehind x) (emp 𝓤) (left x)) $ use0 𝓛 (raw (fact 𝓤 Reads)) (fact_i 𝓤 Reads (emp 𝓤) refl) $ join ! $ use0 𝓛 (raw (fact 𝓤 Same)) (fact_i 𝓤 Same (emp 𝓤) (refl, refl)) $ join ! $ use0 𝓛 (raw (fact 𝓤 Event)) (fact_i 𝓤 Event (emp 𝓤) event) $ join ! $ nothing ! $ nothing ! $ fjoin ! $
    -- [self; the fact; the result; the tokens]
    returns ! (look_at ! 0 refl) $ free_all ! refl $ keep ! (3 ∷ 0 ∷ 2 ∷ 1 ∷ []) $ by ! (leaves 𝓛 En hs c y res (n, h') (tt, tt) (tt, tt))))))))))))
