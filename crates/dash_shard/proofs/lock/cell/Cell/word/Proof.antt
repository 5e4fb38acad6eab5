-- `word` is one load, which leaves the lock as it is.
use Rattle.dash_shard.proofs.Locks.Walking.{[], ℕ, ◌+◌, ◌^◌, List, ◌∷◌, refl, lit<, w64, dcons, dnil, a_type, named, Val, vint, vptr, inst_fn, emp, SProp, via, apply∗, Lft, Share, Fml, ftrue, fsep, flft, ‵, raw, ◌⊛◌, later, mean, at_ret, ◌$◌, ◌∵◌, !, qed, by, move, keep, split, join, fsplit, fpick, pick, use2, use3, await, feq_i, flt_i, fjoin, stop, fld, addr, lit, of_opd, no_more, and_then, first, blocks, exec, Calls-last, returns, enter, alloc_all, pass_all, free_all, look_at, get, through, sets, lands_last, env, agg, tables, fact, Lends-one, yes, RattleType, owns, types_at, plain, block_ptr, nothing, unhide, param, bounded, RefOf, shr_vals, shr_Tells, Stays, stay_dropped, walk_of, Goes-dropped, tail, proved, leaves, fm, seq_cst, found, finds, loads}
use Rattle.dash_shard.specs.contracts.lock.cell.Cell as lock
use Rattle.dash_shard.proofs.Locks.HoldFields.{lent}
use Rattle.dash_shard.proofs.Locks.WordSteps as steps
use Rattle.dash_shard.specs.contracts.lock.cell.Cell.word.{ended, clauses}
use Rattle.dash_shard.specs.contracts.lock.cell.Cell.word.Key.{name as #self}
use Rattle.dash_shard.proofs.lock.cell.Cell.word.Statement.{statement}
use Rattle.dash_shard.proofs.lock.cell.Cell.word.Code as code

pub word_spec : {M : Type 1} → statement M
word_spec 𝓤 𝓛 𝓜 𝓡 wired X Y L _ g d _ =
    let H = 𝓛.H in let 𝓣 = tables 𝓤 H 𝓜 𝓡 𝓡.env in let R : RattleType = param 0 X in let G : RattleType = param 1 Y in let En = ended X Y g d in let c = clauses X Y g d 𝓛 𝓜.mem 𝓡.returns in
    let inst = bounded (a_type ∷ a_type ∷ []) (X, (Y, tt)) (dcons d dnil) in let fn = inst_fn inst code.function in let closed = code.unfolded 𝓤 H 𝓜 𝓡 wired (X, (Y, tt)) d in let Row : RattleType = lock.the_row R G g in
    let self = RefOf (0 ∷ []) tt (plain (λ _. Row)) (λ _. tt) in let hs : Stays En.signature.params En.kept = (stay_dropped self yes, tt) in
    proved 𝓛 En hs c 𝓜 𝓡 (Goes-dropped 𝓛 3 self yes (λ κs x f. refl), tt) (#self inst) fn closed (λ κs. (shr_vals, tt)) (λ κs. (shr_Tells (named 0) κs.0 Row, tt)) (λ κs qs bounds a gh are.
    let b : ℕ = a.0.ref_ptr.0 in let o : ℕ = a.0.ref_ptr.1 in let κ : Lft = κs.0 in let q : Share = qs.0 in let others : Fml = fsep (flft κs.1.0 qs.1.0) (fsep (flft κs.1.1.0 qs.1.1.0) ftrue) in let ok = g.fits a.0.now in
    let y : (walk_of 𝓛 En hs c).Ghost = ((κs, qs, bounds, a, (vptr b o ∷ [], tt)), gh) in let Post : Val → SProp 𝓤 = (walk_of 𝓛 En hs c).post y in
    qed 𝓛 (((‵ (flft κ q) ⊛ ‵ others) ⊛ ‵ (owns (types_at En.signature.params κs) a y.0.4)) ∷ raw (fact 𝓤 _) ∷ raw (fact 𝓤 _) ∷ raw (emp 𝓤) ∷ []) ∵
    keep ! (0 ∷ []) $ split ! $ split ! $ move ! (2 ∷ []) $ fsplit ! $ fsplit ! $ keep ! (1 ∷ 3 ∷ 4 ∷ []) $
    enter ! 𝓣.C 𝓣.Λ fn (vptr b o ∷ []) Post $ alloc_all ! (λ l. pass_all ! refl ((tt, tt), tt) $ let Ev = env fn.locals l in
    -- [what the lock keeps; κ; the other tokens]
    unhide ! $ fpick ! (λ t. fsplit ! $ move ! (0 ∷ 2 ∷ []) $ use2 𝓛 (lent 𝓛 t.life κ q) (Lends-one 𝓛 𝓜 𝓡 κ t.life q) $ await ! tt $ pick ! (λ s. split ! $
    let after : ℕ → Fml = λ n. fsep (flft t.life s) ftrue in
    -- [the lock's token; the way back; the invariant; the other tokens]
    first ! $ blocks ! $ sets ! (addr ! (through ! refl (fld ! refl (stop !)))) refl (tt, tt) $ sets ! (agg ! (and_then ! (lit ! tt) (no_more !))) refl (tt, (record { fits = lit< tt }, tt)) $
    nothing ! $ move ! (3 ∷ 1 ∷ 0 ∷ []) $ use3 𝓛 (raw (𝓣.C _ (vptr b (o + 0) ∷ seq_cst ∷ []) (λ v. mean 𝓛 (found after v))))
    (via 𝓤 _ (steps.looks 𝓛 R ok b o t s) (loads 𝓛 𝓜 𝓡 (code.calls-core::raw_atomic::load 𝓡.env wired) (block_ptr b (o + 0)) after)) $
    Calls-last ! (fm 𝓛 𝓜 𝓡) (found after) (and_then ! (get ! refl) (and_then ! (get ! refl) (no_more !))) (λ v. finds ! after (λ n fits.
    lands_last ! refl (tt, record { fits = fits }) $ exec ! 𝓣.C 𝓣.Λ Ev (tail fn.body) (at_ret Ev Post) $ sets ! (of_opd ! (get ! refl)) refl (tt, record { fits = fits }) $
    fsplit ! $ move ! (0 ∷ 2 ∷ []) $ use2 𝓛 (later (‵ (flft κ q))) (apply∗ 𝓤 (𝓛.A.lft t.life s) (H.⇛ (𝓛.A.lft κ q))) $ await ! tt $ move ! (0 ∷ 2 ∷ []) $ join ! $
    nothing ! $ nothing ! $ fjoin ! $ nothing ! $ flt_i ! n (2 ^ 64) fits $ feq_i ! (List Val) (vint w64 n ∷ []) (vint w64 n ∷ []) refl $ fjoin ! $
    returns ! (look_at ! 0 refl) $ free_all ! refl $ keep ! (3 ∷ 2 ∷ 0 ∷ 1 ∷ []) $ by ! (leaves 𝓛 En hs c y (vint w64 n) n (tt, tt) (tt, tt))))))))
