-- `leave` gives one part back at the subtraction.
use Rattle.dash_shard.proofs.Locks.Walking.{[], ◌≡◌, ℕ, ◌+◌, ◌^◌, List, ◌∷◌, refl, ap, lit<, w64, dcons, dnil, a_type, Val, vint, vptr, inst_fn, SProp, via, apply∗, Lft, Share, Fml, ftrue, fsep, flft, ‵, raw, ◌⊛◌, given, later, mean, at_ret, ◌$◌, ◌∵◌, !, qed, by, move, keep, drop, split, join, fsplit, fjoin, fpick, pick, learn, use1, use2, use3, await, rewrite, feq_i, flt_i, stop, fld, addr, lit, of_opd, no_more, and_then, first, blocks, exec, Calls-last, returns, enter, alloc_all, pass_all, free_all, look_at, get, get_in, through, sets, lands_last, is, env, agg, sub, whole, tables, fact, Lends-one, no, RattleType, owns, types_at, plain, named_lft, Ptr, InBlock, block_ptr, ptr_val, block_of, count_of, at_block, nothing, heard, param, bounded, Stays, stay_dropped, walk_of, Goes-dropped, tail, proved, leaves, fm, seq_cst, found, finds, subs, emp, fact_i, use0, ◌-◌}
use Rattle.dash_shard.specs.declared.lock.word.LockEvent.TheVariants.{ReleaseShared}
use Rattle.dash_behind.specs.Closed.{GivenBack, gave}
use Rattle.dash_shard.specs.LockState.{Steps}
use Rattle.dash_shard.specs.inner.Locks.Holding.{one_reader, hold_owns}
use Rattle.dash_shard.specs.contracts.lock.hold.Hold as hold
use Rattle.dash_shard.proofs.Locks.HoldFields.{lent, bits_of, told, typed, owns_placed}
use Rattle.dash_shard.proofs.Locks.WordSteps as steps
use Rattle.dash_shard.specs.contracts.lock.hold.Hold.leave.{ended, clauses}
use Rattle.dash_shard.specs.contracts.lock.hold.Hold.leave.Key.{name as #self}
use Rattle.dash_shard.proofs.lock.hold.Hold.leave.Statement.{statement}
use Rattle.dash_shard.proofs.lock.hold.Hold.leave.Code as code

pub leave_spec : {M : Type 1} → statement M
leave_spec 𝓤 𝓛 𝓜 𝓡 wired X Y L _ g d _ =
    let H = 𝓛.H in let 𝓣 = tables 𝓤 H 𝓜 𝓡 𝓡.env in let R : RattleType = param 0 X in let G : RattleType = param 1 Y in let En = ended X Y g d in let c = clauses X Y g d 𝓛 𝓜.mem 𝓡.returns in
    let inst = bounded (a_type ∷ a_type ∷ []) (X, (Y, tt)) (dcons d dnil) in let fn = inst_fn inst code.function in let closed = code.unfolded 𝓤 H 𝓜 𝓡 wired (X, (Y, tt)) d in
    let self = plain (λ κs. hold.the_row (named_lft 3 0 tt κs) R G g) in let hs : Stays En.signature.params En.kept = (stay_dropped self no, tt) in
    proved 𝓛 En hs c 𝓜 𝓡 (Goes-dropped 𝓛 3 self no (λ κs x f. refl), tt) (#self inst) fn closed
    (λ κs. ((λ x. bits_of x.cell ∷ []), tt)) (λ κs. ((λ x vs so. told (named_lft 3 0 tt κs) R G g x.cell vs so.0), tt)) (λ κs qs bounds a gh are.
    let Hr : RattleType = hold.the_row (named_lft 3 0 tt κs) R G g in let h : Hr.Denot = a.0 in let p : Ptr = h.cell in let b : ℕ = block_of p in let o : ℕ = count_of p in let β : Lft = κs.0 in let q : Share = qs.0 in let x : X.Denot = h.value in let others : Fml = fsep (flft κs.1.0 qs.1.0) (fsep (flft κs.1.1.0 qs.1.1.0) ftrue) in let ok = g.fits h.tag in
    let y : (walk_of 𝓛 En hs c).Ghost = ((κs, qs, bounds, a, (bits_of p ∷ [], tt)), gh) in let Post : Val → SProp 𝓤 = (walk_of 𝓛 En hs c).post y in
    qed 𝓛 (((‵ (flft β q) ⊛ ‵ others) ⊛ ‵ (owns (types_at En.signature.params κs) a y.0.4)) ∷ raw (fact 𝓤 _) ∷ raw (fact 𝓤 _) ∷ raw (fact 𝓤 (h.right ≡ 1)) ∷ []) ∵
    keep ! (3 ∷ 0 ∷ []) $ heard ! (h.right ≡ 1) (λ asked. split ! $ split ! $ move ! (2 ∷ []) $ fsplit ! $ fsplit ! $ keep ! (1 ∷ 3 ∷ 4 ∷ []) $
    -- [what the hold owns; β; the other tokens]
    use1 𝓛 (given (InBlock p) (‵ (hold_owns β R ok p h.right x))) (owns_placed 𝓛 β R ok p h.right x) $ learn ! (λ inb. let at : p ≡ block_ptr b o = at_block p inb in
    rewrite ! 0 (λ (z : Ptr × ℕ). ‵ (hold_owns β R ok z.0 z.1 x)) (λ i. (at i, asked i)) refl $
    enter ! 𝓣.C 𝓣.Λ fn (bits_of p ∷ []) Post $ alloc_all ! (λ l. pass_all ! refl (typed p inb, tt) $ let Ev = env fn.locals l in
    fpick ! (λ t. fsplit ! $ fsplit ! $ move ! (2 ∷ []) $ fpick ! (λ u. fsplit ! $ move ! (1 ∷ []) $ drop ! $ move ! (1 ∷ 3 ∷ []) $ use2 𝓛 (lent 𝓛 t.life β q) (Lends-one 𝓛 𝓜 𝓡 β t.life q) $ await ! tt $ pick ! (λ s. split ! $
    -- [the lock's token; the way back; a reader's part; the invariant; the other tokens]
    let after : ℕ → Fml = λ n. fsep (flft t.life s) (steps.Left 𝓛 R ok b o t s n) in
    sets ! (is ! (of_opd ! (get_in ! (fld ! refl (stop !)) (sub ! 0 refl (whole !)))) (ap ptr_val at)) refl (tt, tt) $ first ! $ blocks ! $ sets ! (addr ! (through ! refl (fld ! refl (stop !)))) refl (tt, tt) $
    move ! (3 ∷ 0 ∷ 2 ∷ []) $ use3 𝓛 (raw (𝓣.C _ (vptr b (o + 0) ∷ vint w64 one_reader ∷ seq_cst ∷ []) (λ r. mean 𝓛 (found after r))))
    (via 𝓤 _ (steps.leaves 𝓛 R ok b o t s u) (subs 𝓛 𝓜 𝓡 (code.calls-core::raw_atomic::fetch_sub 𝓡.env wired) (block_ptr b (o + 0)) one_reader (lit< tt) after)) $
    sets ! (agg ! (and_then ! (lit ! tt) (no_more !))) refl (tt, (record { fits = lit< tt }, tt)) $
    Calls-last ! (fm 𝓛 𝓜 𝓡) (found after) (and_then ! (get ! refl) (and_then ! (lit ! tt) (and_then ! (get ! refl) (no_more !)))) (λ r. finds ! after (λ n fits.
    lands_last ! refl (tt, record { fits = fits }) $ exec ! 𝓣.C 𝓣.Λ Ev (tail (tail fn.body)) (at_ret Ev Post) $ sets ! (of_opd ! (get ! refl)) refl (tt, record { fits = fits }) $
    fsplit ! $ move ! (0 ∷ 2 ∷ []) $ use2 𝓛 (later (‵ (flft β q))) (apply∗ 𝓤 (𝓛.A.lft t.life s) (H.⇛ (𝓛.A.lft β q))) $ await ! tt $ move ! (1 ∷ []) $ fpick ! (λ event. drop ! $ nothing ! $ nothing ! $ fjoin ! $ move ! (1 ∷ 2 ∷ []) $ join ! $
    let Event : Type 0 = Steps ReleaseShared n (n - 4) in use0 𝓛 (raw (fact 𝓤 (GivenBack x))) (fact_i 𝓤 (GivenBack x) (emp 𝓤) (gave x)) $ use0 𝓛 (raw (fact 𝓤 Event)) (fact_i 𝓤 Event (emp 𝓤) event) $ join ! $ flt_i ! n (2 ^ 64) fits $ feq_i ! (List Val) (vint w64 n ∷ []) (vint w64 n ∷ []) refl $ fjoin ! $
    -- [the result; what it ensures; the tokens; self]
    returns ! (look_at ! 0 refl) $ free_all ! refl $ keep ! (2 ∷ 3 ∷ 0 ∷ 1 ∷ []) $ by ! (leaves 𝓛 En hs c y (vint w64 n) n (tt, tt) (tt, tt))))))))))))
