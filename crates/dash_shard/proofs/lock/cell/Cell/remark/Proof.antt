-- `remark` is one compare-exchange, which leaves the holders as they are.
use Rattle.dash_shard.proofs.Locks.Walking.{[], ◌≡◌, ℕ, ◌+◌, List, ◌∷◌, refl, lit<, w64, dcons, dnil, a_type, named, Val, vint, vptr, inst_fn, SProp, via, apply∗, Lft, Share, Fml, ftrue, fsep, flft, ‵, raw, ◌⊛◌, later, mean, at_ret, ◌$◌, ◌∵◌, !, qed, by, move, keep, split, join, fsplit, fjoin, fpick, pick, learn, use2, use3, await, stop, fld, addr, lit, of_opd, no_more, and_then, first, blocks, exec, Calls-last, returns, enter, alloc_all, pass_all, free_all, look_at, get, through, sets, lands_last, env, agg, tables, fact, Lends-one, yes, RattleType, owns, types_at, plain, block_ptr, nothing, heard, unhide, param, bounded, RefOf, u64, shr_vals, shr_Tells, uint_vals, uint_Tells, Stays, stay_dropped, walk_of, Goes-dropped, tail, proved, leaves, fm, seq_cst}
use Rattle.dash_shard.proofs.Locks.Exchanging.{exchanged, exchanges}
use Rattle.dash_shard.specs.inner.Locks.Holding.{count, IsMark}
use Rattle.dash_shard.proofs.Locks.Counting.{marks_counted}
use Rattle.dash_shard.specs.contracts.lock.cell.Cell as lock
use Rattle.dash_shard.proofs.Locks.HoldFields.{lent}
use Rattle.dash_shard.proofs.Locks.WordSteps as steps
use Rattle.dash_shard.specs.contracts.lock.cell.Cell.remark.{ended, clauses}
use Rattle.dash_shard.specs.contracts.lock.cell.Cell.remark.Key.{name as #self}
use Rattle.dash_shard.proofs.lock.cell.Cell.remark.Statement.{statement}
use Rattle.dash_shard.proofs.lock.cell.Cell.remark.Code as code

pub remark_spec : {M : Type 1} → statement M
remark_spec 𝓤 𝓛 𝓜 𝓡 wired X Y L _ g d _ =
    let H = 𝓛.H in let 𝓣 = tables 𝓤 H 𝓜 𝓡 𝓡.env in let R : RattleType = param 0 X in let G : RattleType = param 1 Y in let En = ended X Y g d in let c = clauses X Y g d 𝓛 𝓜.mem 𝓡.returns in
    let inst = bounded (a_type ∷ a_type ∷ []) (X, (Y, tt)) (dcons d dnil) in let fn = inst_fn inst code.function in let closed = code.unfolded 𝓤 H 𝓜 𝓡 wired (X, (Y, tt)) d in let Row : RattleType = lock.the_row R G g in
    let self = RefOf (0 ∷ []) tt (plain (λ _. Row)) (λ _. tt) in let number = plain (λ _. u64) in
    let hs : Stays En.signature.params En.kept = (stay_dropped self yes, (stay_dropped number yes, (stay_dropped number yes, tt))) in
    proved 𝓛 En hs c 𝓜 𝓡 (Goes-dropped 𝓛 3 self yes (λ κs x f. refl), (Goes-dropped 𝓛 3 number yes (λ κs x f. refl), (Goes-dropped 𝓛 3 number yes (λ κs x f. refl), tt))) (#self inst) fn closed
    (λ κs. (shr_vals, (uint_vals w64, (uint_vals w64, tt)))) (λ κs. (shr_Tells (named 0) κs.0 Row, (uint_Tells w64, (uint_Tells w64, tt)))) (λ κs qs bounds a gh are.
    let b : ℕ = a.0.ref_ptr.0 in let o : ℕ = a.0.ref_ptr.1 in let κ : Lft = κs.0 in let q : Share = qs.0 in let others : Fml = fsep (flft κs.1.0 qs.1.0) (fsep (flft κs.1.1.0 qs.1.1.0) ftrue) in let ok = g.fits a.0.now in let old : ℕ = a.1.0 in let new : ℕ = a.1.1.0 in
    let us : List Val = vptr b o ∷ vint w64 old ∷ vint w64 new ∷ [] in let fits = are.1.0.1 in let fits' = are.1.1.0.1 in let Asked : Type 0 = IsMark old new in
    let y : (walk_of 𝓛 En hs c).Ghost = ((κs, qs, bounds, a, (vptr b o ∷ [], (vint w64 old ∷ [], (vint w64 new ∷ [], tt)))), gh) in let Post : Val → SProp 𝓤 = (walk_of 𝓛 En hs c).post y in
    qed 𝓛 (((‵ (flft κ q) ⊛ ‵ others) ⊛ ‵ (owns (types_at En.signature.params κs) a y.0.4)) ∷ raw (fact 𝓤 _) ∷ raw (fact 𝓤 _) ∷ raw (fact 𝓤 Asked) ∷ []) ∵
    keep ! (3 ∷ 0 ∷ []) $ heard ! Asked (λ marks. let asked : count new ≡ count old = marks_counted old new fits marks in split ! $ split ! $ move ! (2 ∷ []) $ fsplit ! $ fsplit ! $ keep ! (1 ∷ 3 ∷ 4 ∷ []) $
    enter ! 𝓣.C 𝓣.Λ fn us Post $ alloc_all ! (λ l. pass_all ! refl ((tt, tt), ((tt, record { fits = fits }), ((tt, record { fits = fits' }), tt))) $ let Ev = env fn.locals l in
    -- [what the lock keeps; κ; the other tokens]
    unhide ! $ fpick ! (λ t. fsplit ! $ move ! (0 ∷ 2 ∷ []) $ use2 𝓛 (lent 𝓛 t.life κ q) (Lends-one 𝓛 𝓜 𝓡 κ t.life q) $ await ! tt $ pick ! (λ s. split ! $
    let after : ℕ → Fml = λ n. fsep (flft t.life s) ftrue in
    -- [the lock's token; the way back; the invariant; the other tokens]
    first ! $ blocks ! $ sets ! (addr ! (through ! refl (fld ! refl (stop !)))) refl (tt, tt) $ sets ! (agg ! (and_then ! (lit ! tt) (no_more !))) refl (tt, (record { fits = lit< tt }, tt)) $ sets ! (agg ! (and_then ! (lit ! tt) (no_more !))) refl (tt, (record { fits = lit< tt }, tt)) $
    nothing ! $ move ! (3 ∷ 1 ∷ 0 ∷ []) $ use3 𝓛 (raw (𝓣.C _ (vptr b (o + 0) ∷ vint w64 old ∷ vint w64 new ∷ seq_cst ∷ seq_cst ∷ []) (λ v. mean 𝓛 (exchanged old after v))))
    (via 𝓤 _ (steps.remarks 𝓛 R ok b o t s old new asked) (exchanges 𝓛 𝓜 𝓡 (code.calls-core::raw_atomic::compare_exchange 𝓡.env wired) (block_ptr b (o + 0)) old new fits fits' after)) $
    Calls-last ! (fm 𝓛 𝓜 𝓡) (exchanged old after) (and_then ! (get ! refl) (and_then ! (get ! refl) (and_then ! (get ! refl) (and_then ! (get ! refl) (and_then ! (get ! refl) (no_more !)))))) (λ v. await ! tt $ pick ! (λ found. learn ! (λ is. let good = is.0.0 in
    lands_last ! refl good $ exec ! 𝓣.C 𝓣.Λ Ev (tail fn.body) (at_ret Ev Post) $ sets ! (of_opd ! (get ! refl)) refl good $
    -- [the lock's token; what was found; the way back; the other tokens]
    split ! $ fsplit ! $ move ! (0 ∷ 3 ∷ []) $ use2 𝓛 (later (‵ (flft κ q))) (apply∗ 𝓤 (𝓛.A.lft t.life s) (H.⇛ (𝓛.A.lft κ q))) $ await ! tt $ move ! (0 ∷ 3 ∷ []) $ join ! $
    -- [the tokens; nothing; what was found]
    nothing ! $ nothing ! $ fjoin ! $ nothing ! $ fjoin ! $ nothing ! $ fjoin ! $ nothing ! $
    -- [what is ensured; the parameters; the tokens; nothing; what was found]
    returns ! (look_at ! 0 refl) $ free_all ! refl $ keep ! (2 ∷ 1 ∷ 4 ∷ 0 ∷ []) $ by ! (leaves 𝓛 En hs c y v found (tt, (tt, (tt, tt))) (tt, (tt, (tt, tt))))))))))))
