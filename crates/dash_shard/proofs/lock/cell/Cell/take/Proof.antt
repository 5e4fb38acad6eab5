-- `take` is one compare-exchange, and the hold has what it gained.
use Rattle.dash_shard.proofs.Locks.Walking.{[], ◌++◌, ◌≡◌, ℕ, ◌+◌, ◌<◌, List, ◌∷◌, refl, lit<, w64, and_tt, OnOk, OnErr, dcons, dnil, a_type, named, Val, vint, vptr, vstruct, vcons, vnil, of_list, inst_fn, emp, SProp, via, apply∗, Lft, Share, Fml, ftrue, fsep, feq, flft, fbor, finv, before, ‵, raw, ◌⊛◌, later, mean, at_ret, ◌$◌, ◌∵◌, !, qed, by, move, keep, drop, split, join, fsplit, fjoin, fjoin3, fpick, fpack, pick, learn, use0, use1, use2, use3, await, feq_i, stop, fld, addr, lit, of_opd, no_more, and_then, first, blocks, exec, Calls-last, returns, enter, alloc_all, pass_all, free_all, look_at, get, through, sets, lands_last, env, agg, before_dup, tables, fact, fact_i, Lends-one, yes, RattleType, Valss, owns, types_at, plain, named_lft, Ptr, block_ptr, nothing, heard, unhide, param, bounded, param_laws, RefOf, u64, shr_vals, shr_Tells, uint_vals, uint_Tells, Stays, stay_dropped, walk_of, Goes-dropped, tail, proved, leaves, fm, seq_cst, word_found}
use Rattle.dash_shard.proofs.Locks.Counting.{takes_counted}
use Rattle.dash_shard.specs.Lock.{FoundBehind}
use Rattle.dash_behind.specs.Closed.{found as found-behind}
use Rattle.dash_shard.proofs.Locks.Exchanging.{Found, exchanged, exchanges, on_ok, on_err}
use Rattle.dash_shard.specs.inner.Locks.Holding.{IsTake, Gains, Fixed, Inv, kept, right_to, IsCounted}
use Rattle.dash_shard.proofs.Locks.Rounds.{settled}
use Rattle.dash_shard.specs.contracts.lock.cell.Cell as lock
use Rattle.dash_shard.specs.contracts.lock.hold.Hold as hold
use Rattle.dash_shard.proofs.Locks.HoldFields.{lent, bits_of, Words, made}
use Rattle.dash_shard.proofs.Locks.WordSteps as steps
use Rattle.dash_shard.specs.contracts.lock.cell.Cell.take.{ended, clauses}
use Rattle.dash_shard.specs.contracts.lock.cell.Cell.take.Key.{name as #self}
use Rattle.dash_shard.proofs.lock.cell.Cell.take.Statement.{statement}
use Rattle.dash_shard.proofs.lock.cell.Cell.take.Code as code

pub take_spec : {M : Type 1} → statement M
take_spec 𝓤 𝓛 𝓜 𝓡 wired X Y L _ g d _ =
    let H = 𝓛.H in let 𝓣 = tables 𝓤 H 𝓜 𝓡 𝓡.env in let R : RattleType = param 0 X in let G : RattleType = param 1 Y in let En = ended X Y g d in let c = clauses X Y g d 𝓛 𝓜.mem 𝓡.returns in
    let inst = bounded (a_type ∷ a_type ∷ []) (X, (Y, tt)) (dcons d dnil) in let fn = inst_fn inst code.function in let closed = code.unfolded 𝓤 H 𝓜 𝓡 wired (X, (Y, tt)) d in let Row : RattleType = lock.the_row R G g in let LR = param_laws 0 X L in
    let self = RefOf (0 ∷ []) tt (plain (λ _. Row)) (λ _. tt) in let number = plain (λ _. u64) in
    let hs : Stays En.signature.params En.kept = (stay_dropped self yes, (stay_dropped number yes, (stay_dropped number yes, tt))) in
    proved 𝓛 En hs c 𝓜 𝓡 (Goes-dropped 𝓛 3 self yes (λ κs x f. refl), (Goes-dropped 𝓛 3 number yes (λ κs x f. refl), (Goes-dropped 𝓛 3 number yes (λ κs x f. refl), tt))) (#self inst) fn closed
    (λ κs. (shr_vals, (uint_vals w64, (uint_vals w64, tt)))) (λ κs. (shr_Tells (named 0) κs.0 Row, (uint_Tells w64, (uint_Tells w64, tt)))) (λ κs qs bounds a gh are.
    let b : ℕ = a.0.ref_ptr.0 in let o : ℕ = a.0.ref_ptr.1 in let κ : Lft = κs.0 in let q : Share = qs.0 in let others : Fml = fsep (flft κs.1.0 qs.1.0) (fsep (flft κs.1.1.0 qs.1.1.0) ftrue) in let ok = g.fits a.0.now in let old : ℕ = a.1.0 in let new : ℕ = a.1.1.0 in
    let p : Ptr = block_ptr b o in let ℓ = named_lft 3 0 tt κs in let Hr : RattleType = hold.the_row ℓ R G g in let us : List Val = vptr b o ∷ vint w64 old ∷ vint w64 new ∷ [] in let fits = are.1.0.1 in let fits' = are.1.1.0.1 in
    let y : (walk_of 𝓛 En hs c).Ghost = ((κs, qs, bounds, a, (vptr b o ∷ [], (vint w64 old ∷ [], (vint w64 new ∷ [], tt)))), gh) in let Post : Val → SProp 𝓤 = (walk_of 𝓛 En hs c).post y in
    qed 𝓛 (((‵ (flft κ q) ⊛ ‵ others) ⊛ ‵ (owns (types_at En.signature.params κs) a y.0.4)) ∷ raw (fact 𝓤 _) ∷ raw (fact 𝓤 _) ∷ raw (fact 𝓤 (IsTake old new)) ∷ []) ∵
    keep ! (3 ∷ 0 ∷ []) $ heard ! (IsTake old new) (λ taken. let asked : IsCounted old new = takes_counted old new taken in split ! $ split ! $ move ! (2 ∷ []) $ fsplit ! $ fsplit ! $ keep ! (1 ∷ 3 ∷ 4 ∷ []) $
    enter ! 𝓣.C 𝓣.Λ fn us Post $ alloc_all ! (λ l. pass_all ! refl ((tt, tt), ((tt, record { fits = fits }), ((tt, record { fits = fits' }), tt))) $ let Ev = env fn.locals l in
    -- [what the lock keeps; κ; the other tokens]
    unhide ! $ fpick ! (λ t. let J : Fml = fbor t.life (Inv R ok b o t) in fsplit ! $ use1 𝓛 (‵ (before κ t.life) ⊛ ‵ (before κ t.life)) (before_dup 𝓛 κ t.life) $ split ! $ move ! (2 ∷ []) $
    use1 𝓛 (‵ (finv J) ⊛ ‵ (finv J)) (𝓛.invs.inv_dup J) $ split ! $ move ! (2 ∷ 0 ∷ []) $ fjoin ! $ move ! (2 ∷ 3 ∷ []) $ use2 𝓛 (lent 𝓛 t.life κ q) (Lends-one 𝓛 𝓜 𝓡 κ t.life q) $ await ! tt $ pick ! (λ s. split ! $
    let Gained : ℕ → Fml = steps.Gained 𝓛 R ok b o t s LR.shr_laws old new asked in let after : ℕ → Fml = λ n. fsep (flft t.life s) (Gained n) in
    -- [the lock's token; the way back; what the lock keeps; the invariant; the other tokens]
    first ! $ blocks ! $ sets ! (addr ! (through ! refl (fld ! refl (stop !)))) refl (tt, tt) $ sets ! (agg ! (and_then ! (lit ! tt) (no_more !))) refl (tt, (record { fits = lit< tt }, tt)) $ sets ! (agg ! (and_then ! (lit ! tt) (no_more !))) refl (tt, (record { fits = lit< tt }, tt)) $
    nothing ! $ move ! (4 ∷ 1 ∷ 0 ∷ []) $ use3 𝓛 (raw (𝓣.C _ (vptr b (o + 0) ∷ vint w64 old ∷ vint w64 new ∷ seq_cst ∷ seq_cst ∷ []) (λ v. mean 𝓛 (exchanged old after v))))
    (via 𝓤 _ (steps.takes 𝓛 R ok b o t s LR.shr_laws old new asked) (exchanges 𝓛 𝓜 𝓡 (code.calls-core::raw_atomic::compare_exchange 𝓡.env wired) (block_ptr b (o + 0)) old new fits fits' after)) $
    Calls-last ! (fm 𝓛 𝓜 𝓡) (exchanged old after) (and_then ! (get ! refl) (and_then ! (get ! refl) (and_then ! (get ! refl) (and_then ! (get ! refl) (and_then ! (get ! refl) (no_more !)))))) (λ v. await ! tt $ pick ! (λ found. learn ! (λ is. let n : ℕ = word_found found in let good = is.0.0 in
    lands_last ! refl good $ exec ! 𝓣.C 𝓣.Λ Ev (tail fn.body) (at_ret Ev Post) $ sets ! (of_opd ! (get ! refl)) refl good $
    sets ! (addr ! (through ! refl (stop !))) refl (tt, tt) $ sets ! (agg ! (no_more !)) refl (tt, tt) $ sets ! (agg ! (and_then ! (get ! refl) (and_then ! (get ! refl) (no_more !)))) refl (tt, (tt, (tt, tt))) $
    sets ! (of_opd ! (get ! refl)) refl (tt, (tt, (tt, tt))) $ sets ! (agg ! (and_then ! (get ! refl) (and_then ! (get ! refl) (no_more !)))) refl (and_tt _ good.0, (good.1, ((tt, (tt, tt)), tt))) $
    -- [the lock's token; what was gained; what was found; the way back; what the lock keeps; the other tokens]
    split ! $ fsplit ! $ move ! (0 ∷ 3 ∷ []) $ use2 𝓛 (later (‵ (flft κ q))) (apply∗ 𝓤 (𝓛.A.lft t.life s) (H.⇛ (𝓛.A.lft κ q))) $ await ! tt $ move ! (0 ∷ 4 ∷ []) $ join ! $ move ! (1 ∷ []) $
    fpick ! (λ w. fsplit ! $ fpick ! (λ so. drop ! $ let k : ℕ = w.0 in let x : X.Denot = w.1 in
    use1 𝓛 (later (‵ (right_to R ok b o t k x))) (settled 𝓛 R ok b o t k x) $ await ! tt $
    move ! (3 ∷ 0 ∷ []) $ fjoin ! $ fpack ! (Fixed R.Denot) (λ z. fsep (kept R ok b o z κ) (right_to R ok b o z k x)) t $
    let h : Hr.Denot = record { cell = p; marker = record {}; tag = a.0.now; right = k; value = x } in let r : Val = vstruct (vcons v (vcons (bits_of p) vnil)) in
    use0 𝓛 (‵ ((Words ℓ R G g).own_val (p, (tt, tt)) (bits_of p ∷ []))) (made ℓ R G g 𝓛 p) $ fjoin ! $
    -- [the hold; the tokens; what was found]
    nothing ! $ move ! (3 ∷ 1 ∷ 0 ∷ []) $ fjoin3 ! $ feq_i ! (List Val) (r ∷ []) (r ∷ []) refl $ fjoin ! $
    fpack ! (Valss (Found ∷ Hr ∷ [])) (λ uss. fsep (feq (List Val) (r ∷ []) (vstruct (of_list (uss.0 ++ (uss.1.0 ++ []))) ∷ [])) (owns (Found ∷ Hr ∷ []) (found, (h, tt)) uss)) (v ∷ [], (bits_of p ∷ [], tt)) $
    let Won : Type 0 = OnOk found (Gains new k) in let Missed : Type 0 = OnErr found (k ≡ 0) in let Same : Type 0 = a.0.now ≡ a.0.now in let Fits : Type 0 = 0 < k → ok x in let Was : Type 0 = 0 < k → FoundBehind x in
    use0 𝓛 (raw (fact 𝓤 Was)) (fact_i 𝓤 Was (emp 𝓤) (λ _. found-behind x)) $ use0 𝓛 (raw (fact 𝓤 Fits)) (fact_i 𝓤 Fits (emp 𝓤) so.2) $ join ! $ use0 𝓛 (raw (fact 𝓤 Same)) (fact_i 𝓤 Same (emp 𝓤) refl) $ join ! $ use0 𝓛 (raw (fact 𝓤 Missed)) (fact_i 𝓤 Missed (emp 𝓤) (on_err old found is.1 so.1)) $ join ! $
    use0 𝓛 (raw (fact 𝓤 Won)) (fact_i 𝓤 Won (emp 𝓤) (on_ok old found is.1 so.0)) $ join ! $
    -- [the facts; the result; the tokens]
    nothing ! $ nothing ! $ fjoin ! $ nothing ! $ fjoin ! $ nothing ! $ fjoin ! $
    returns ! (look_at ! 0 refl) $ free_all ! refl $ keep ! (3 ∷ 0 ∷ 2 ∷ 1 ∷ []) $ by ! (leaves 𝓛 En hs c y r (found, h) (tt, (tt, (tt, tt))) (tt, (tt, (tt, tt))))))))))))))
