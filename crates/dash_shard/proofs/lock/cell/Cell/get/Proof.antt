-- `get` turns the `&mut` into a `&` of the value.
use Rattle.dash_shard.proofs.Locks.Walking.{[], ◌++◌, ℕ, ◌+◌, List, ◌∷◌, refl, dcons, dnil, a_type, named, Val, vptr, inst_fn, full_share, emp, SProp, id⊢, Lft, Share, Fml, ftrue, fsep, flft, fbor, fobs, Incl-refl, Incl-trans, ‵, raw, ◌⊛◌, later, ◌$◌, ◌∵◌, !, qed, by, move, keep, drop, split, split3, join, fsplit, fsplit3, fjoin, fpick, use0, use1, use3, group, await, feq_i, stop, fld, addr, returns, enter, alloc_all, pass_all, free_all, look_at, through, sets, tables, fact, fact_i, ◌⊑◌, ⊑_meet, ⊑_static, meet_⊑_left, meet_⊑_right, no, RattleType, owns, types_at, plain, nothing, heard, part_at, hidden_shr, param, bounded, param_laws, Stays, stay_dropped, walk_of, proved, leaves, mut_vals, mut_Tells, RefMutOf, mem, settles, Goes-spent_ref}
use denote.Follow.{follows_by}
use types.Tokens.{name_done}
use Rattle.dash_shard.specs.inner.Locks.Holding.{offset}
use Rattle.dash_behind.specs.Closed.{FoundBehind, found}
use Rattle.dash_shard.specs.contracts.lock.cell.Cell as lock
use Rattle.dash_shard.proofs.Locks.LockShown as shown
use Rattle.dash_shard.specs.contracts.lock.cell.Cell.get.{ended, clauses}
use Rattle.dash_shard.specs.contracts.lock.cell.Cell.get.Key.{name as #self}
use Rattle.dash_shard.proofs.lock.cell.Cell.get.Statement.{statement}
use Rattle.dash_shard.proofs.lock.cell.Cell.get.Code as code

pub get_spec : {M : Type 1} → statement M
unfolding follows_by
get_spec 𝓤 𝓛 𝓜 𝓡 wired X Y L _ g d _ =
    let H = 𝓛.H in let 𝓣 = tables 𝓤 H 𝓜 𝓡 𝓡.env in let R : RattleType = param 0 X in let G : RattleType = param 1 Y in let En = ended X Y g d in let c = clauses X Y g d 𝓛 𝓜.mem 𝓡.returns in
    let inst = bounded (a_type ∷ a_type ∷ []) (X, (Y, tt)) (dcons d dnil) in let fn = inst_fn inst code.function in let closed = code.unfolded 𝓤 H 𝓜 𝓡 wired (X, (Y, tt)) d in let Row : RattleType = lock.the_row R G g in let LR = param_laws 0 X L in
    let self = RefMutOf (0 ∷ []) tt (plain (λ _. Row)) (λ _. tt) in let hs : Stays En.signature.params En.kept = (stay_dropped self no, tt) in
    proved 𝓛 En hs c 𝓜 𝓡 (Goes-spent_ref 𝓛 3 (0 ∷ []) tt (plain (λ _. Row)), tt) (#self inst) fn closed
    (λ κs. (mut_vals, tt)) (λ κs. (mut_Tells (named 0) κs.0 Row, tt)) (λ κs qs bounds a gh are.
    let b : ℕ = a.0.ref_ptr.0 in let o : ℕ = a.0.ref_ptr.1 in let κ : Lft = κs.0 in let q : Share = qs.0 in let τ : Lft = κs.1.0 in let r : Share = qs.1.0 in let υ : Lft = κs.1.1.0 in let rest : Fml = fsep (flft υ qs.1.1.0) ftrue in let ok = g.fits a.0.now in let e : ℕ = o + offset R in
    let y : (walk_of 𝓛 En hs c).Ghost = ((κs, qs, bounds, a, (vptr b o ∷ [], tt)), gh) in let Post : Val → SProp 𝓤 = (walk_of 𝓛 En hs c).post y in
    qed 𝓛 (((‵ (flft κ q) ⊛ ‵ (flft τ r) ⊛ ‵ rest) ⊛ ‵ (owns (types_at En.signature.params κs) a y.0.4)) ∷ raw (fact 𝓤 (τ ⊑ X.lives)) ∷ raw (fact 𝓤 (υ ⊑ Y.lives)) ∷ raw (emp 𝓤) ∷ []) ∵
    move ! (1 ∷ 2 ∷ 3 ∷ 0 ∷ []) $ heard ! (τ ⊑ X.lives) (λ le. heard ! (υ ⊑ Y.lives) (λ le'. let ts : ghost.Rules.Toks = (κ, q) ∷ (τ, r) ∷ (υ, qs.1.1.0) ∷ [] in let more : Lft = τ ++ υ in let kx = Incl-trans (meet_⊑_right κ more) (Incl-trans (meet_⊑_left τ υ) le) in let ky = Incl-trans (meet_⊑_right κ more) (Incl-trans (meet_⊑_right τ υ) le') in let sp : Lft = κ ++ more in let within_all = ⊑_meet sp (X.lives ++ (Y.lives ++ [])) (X.lives ++ []) (⊑_meet sp X.lives (Y.lives ++ []) kx (⊑_meet sp Y.lives [] ky (⊑_static sp))) (⊑_meet sp X.lives [] kx (⊑_static sp)) in drop ! $ split ! $ split3 ! $ move ! (3 ∷ []) $ fsplit ! $
    enter ! 𝓣.C 𝓣.Λ fn (vptr b o ∷ []) Post $ alloc_all ! (λ l. pass_all ! refl ((tt, tt), tt) $
    fsplit3 ! $ move ! (1 ∷ 2 ∷ 4 ∷ []) $ use3 𝓛 (later (‵ (fobs a.0.ghost_name (Row.coded.code a.0.now)) ⊛ ‵ (fbor κ (part_at Row full_share a.0.now b o)) ⊛ ‵ (flft κ q))) (settles 𝓛 (mem Row) κ ((κ, q) ∷ []) (Incl-refl κ) a.0.ghost_name a.0.now b o) $ await ! tt $ split3 ! $ name_done ! tt $
    move ! (6 ∷ []) $ fsplit ! $ move ! (3 ∷ 4 ∷ 7 ∷ 0 ∷ []) $ group ! 4 $
    use1 𝓛 (later (‵ (shown.shown R G g a.0.now b o κ) ⊛ ‵ (flft κ q) ⊛ ‵ (flft τ r) ⊛ ‵ (flft υ qs.1.1.0))) ((shown.laws R G g LR).shares 𝓛 a.0.now κ ts b o within_all (meet_⊑_left κ more)) $ await ! tt $ split ! $
    fpick ! (λ x. fsplit ! $ fpick ! (λ fit. drop ! $ use1 𝓛 (‵ (hidden_shr R κ x b e)) (id⊢ 𝓤 _) $
    sets ! (addr ! (through ! refl (fld ! refl (stop !)))) refl (tt, tt) $
    -- [what is seen; the tokens; nothing; what self ends as; self's first; nothing]
    feq_i ! (List Val) (vptr b e ∷ []) (vptr b e ∷ []) refl $ fjoin ! $ move ! (1 ∷ []) $ split3 ! $ move ! (2 ∷ 4 ∷ []) $ fjoin ! $ move ! (2 ∷ 0 ∷ []) $ join ! $ move ! (1 ∷ 0 ∷ []) $ join ! $
    use0 𝓛 (raw (fact 𝓤 (FoundBehind x))) (fact_i 𝓤 (FoundBehind x) (emp 𝓤) (found x)) $ use0 𝓛 (raw (fact 𝓤 (ok x))) (fact_i 𝓤 (ok x) (emp 𝓤) fit) $ join ! $ move ! (3 ∷ 0 ∷ []) $ join ! $ nothing ! $ nothing ! $ fjoin ! $
    returns ! (look_at ! 0 refl) $ free_all ! refl $ keep ! (2 ∷ 0 ∷ 3 ∷ 1 ∷ []) $ by ! (leaves 𝓛 En hs c y (vptr b e) (record { ref_ptr = (b, e); now = x }) (tt, tt) (tt, tt))))))))
