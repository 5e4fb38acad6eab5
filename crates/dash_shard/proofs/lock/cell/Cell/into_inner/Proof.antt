-- `into_inner` takes the value, whatever the word is.
use Rattle.dash_shard.proofs.Locks.Walking.{[], ◌++◌, ◌≡◌, ◌&&◌, T, true, List, ◌∷◌, sym, refl, ◌∙◌, subst, w64, and_tt, dcons, dnil, a_type, Val, vint, vstruct, vcons, vnil, of_list, has_ty, inst_fn, emp, SProp, ent, id⊢, ftrue, fsep, WpFn, ‵, raw, ◌⊛◌, ◌$◌, ◌∵◌, !, qed, by, move, keep, drop, split, join, fsplit, fsplit3, fjoin, fpick, use0, rewrite, feq_l, flt_l, suffices, stop, fld, of_opd, returns, enter, alloc_all, pass_all, free_all, look_at, get, get_in, sets, sub, whole, tables, fact, fact_i, no, RattleType, plain, nothing, peeks, Is, shows, param, layout, bounded, alive, Stays, stay_dropped, walk_of, Goes-dropped, El, lawful, Good, one, proved_at, leaves}
use Rattle.dash_behind.specs.Closed.{FoundBehind, found}
use Rattle.dash_shard.specs.contracts.lock.cell.Cell as lock
use Rattle.dash_shard.specs.contracts.lock.cell.Cell.into_inner.{ended, clauses}
use Rattle.dash_shard.specs.contracts.lock.cell.Cell.into_inner.Key.{name as #self}
use Rattle.dash_shard.proofs.lock.cell.Cell.into_inner.Statement.{statement}
use Rattle.dash_shard.proofs.lock.cell.Cell.into_inner.Code as code

pub into_inner_spec : {M : Type 1} → statement M
into_inner_spec 𝓤 𝓛 𝓜 𝓡 wired X Y L _ g d _ =
    let H = 𝓛.H in let 𝓣 = tables 𝓤 H 𝓜 𝓡 𝓡.env in let R : RattleType = param 0 X in let G : RattleType = param 1 Y in let En = ended X Y g d in let c = clauses X Y g d 𝓛 𝓜.mem 𝓡.returns in let E : El = record { row = X; laws = L } in
    let inst = bounded (a_type ∷ a_type ∷ []) (X, (Y, tt)) (dcons d dnil) in let fn = inst_fn inst code.function in let closed = code.unfolded 𝓤 H 𝓜 𝓡 wired (X, (Y, tt)) d in let Row : RattleType = lock.the_row R G g in
    let self = plain (λ _. Row) in let hs : Stays En.signature.params En.kept = (stay_dropped self no, tt) in let fine : (v : Val) → Good E v → T (has_ty (layout X) v && true) = λ v h. and_tt (has_ty (layout X) v) h.0 in
    proved_at 𝓛 En hs c 𝓜 𝓡 (Goes-dropped 𝓛 2 self no (λ κs x f. refl), tt) (#self inst) fn closed (λ z are.
    let Post : Val → SProp 𝓤 = (walk_of 𝓛 En hs c).post z in let Run : List Val → SProp 𝓤 = λ ws. WpFn 𝓤 H 𝓣.C 𝓣.Λ fn ws Post in
    qed 𝓛 ((raw (alive 𝓛 En.signature z.0.0 z.0.1) ⊛ ‵ (fsep (Row.own_val z.0.3.0 z.0.4.0) ftrue)) ∷ raw ((c z.0.0 z.0.3).requires z.1) ∷ []) ∵ keep ! (0 ∷ []) $ split ! $ move ! (1 ∷ []) $ fsplit ! $ fsplit ! $ drop ! $
    fpick ! (λ s. fsplit ! $ move ! (1 ∷ []) $ fpick ! (λ fit. drop ! $ fpick ! (λ vss. fsplit ! $ feq_l ! (λ ev. fsplit3 ! $ fsplit ! $ feq_l ! (λ en. flt_l ! (λ fits. peeks ! R (Is R) (shows 𝓛 R) s.1 vss.1.0 (λ is_so.
    let got = one E vss.1.0 ((lawful E 𝓛).typed s.1 vss.1.0 is_so) in let vy : Val = got.0 in let fy : Good E vy = got.2 in let v : Val = vstruct (vcons (vint w64 s.0) (vcons vy vnil)) in
    let whole_is : z.0.4.0 ≡ v ∷ [] = ev ∙ (λ i. vstruct (of_list (en i ++ (got.1 i ++ []))) ∷ []) in
    rewrite ! 0 (λ (ws : List Val). ‵ (R.own_val s.1 ws)) got.1 refl $ keep ! (0 ∷ 3 ∷ []) $
    suffices ! (Run (v ∷ [])) (subst (λ (ws : List Val). ent 𝓤 (Run (v ∷ [])) (Run ws)) (sym (λ i. whole_is i ++ [])) (id⊢ 𝓤 (Run (v ∷ [])))) $
    enter ! 𝓣.C 𝓣.Λ fn (v ∷ []) Post $ alloc_all ! (λ l. pass_all ! refl ((fine vy fy, (record { fits = fits }, (fy.1, tt))), tt) $
    sets ! (of_opd ! (get_in ! (fld ! refl (stop !)) (sub ! 1 refl (whole !)))) refl fy $ sets ! (of_opd ! (get ! refl)) refl fy $
    use0 𝓛 (raw (fact 𝓤 (FoundBehind s.1))) (fact_i 𝓤 (FoundBehind s.1) (emp 𝓤) (found s.1)) $ use0 𝓛 (raw (fact 𝓤 (g.fits z.0.3.0 s.1))) (fact_i 𝓤 (g.fits z.0.3.0 s.1) (emp 𝓤) fit) $ join ! $ nothing ! $ nothing ! $ fjoin ! $
    -- [self; what is ensured; the value; the tokens]
    returns ! (look_at ! 0 refl) $ free_all ! refl $ keep ! (3 ∷ 0 ∷ 2 ∷ 1 ∷ []) $ by ! (leaves 𝓛 En hs c z vy s.1 (tt, tt) (tt, tt)))))))))))
