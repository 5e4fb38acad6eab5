-- `new` lays the word and the value side by side.
use Rattle.dash_shard.proofs.Locks.Walking.{[], ◌++◌, ◌≡◌, ℕ, ◌^◌, ◌&&◌, T, true, List, ◌∷◌, sym, refl, subst, lit<, w64, and_tt, dcons, dnil, a_type, Val, vint, vptr, vstruct, vcons, vnil, has_ty, WT, inst_fn, emp, SProp, ent, id⊢, ftrue, fsep, fex, WpFn, ‵, raw, ◌⊛◌, ◌$◌, ◌∵◌, !, qed, by, move, keep, drop, split, join, fsplit, fjoin, fjoin3, fpack, use0, rewrite, feq_i, flt_i, suffices, lit, of_opd, no_more, and_then, returns, enter, alloc_all, pass_all, free_all, look_at, get, sets, agg, tables, fact, fact_i, yes, no, RattleType, Valss, owns, types_at, plain, nothing, heard, Typed, param, layout, bounded, RefOf, u64, alive, Stays, stay_dropped, walk_of, Goes-dropped, El, lawful, Good, one, proved_at, leaves}
use denote.Struct.Struct.{within}
use Rattle.dash_behind.specs.Closed.{LeftBehind, left}
use Rattle.dash_shard.specs.contracts.lock.cell.Cell.TheInside as inside
use Rattle.dash_shard.specs.contracts.lock.cell.Cell.new.{ended, clauses}
use Rattle.dash_shard.specs.contracts.lock.cell.Cell.new.Key.{name as #self}
use Rattle.dash_shard.proofs.lock.cell.Cell.new.Statement.{statement}
use Rattle.dash_shard.proofs.lock.cell.Cell.new.Code as code

pub new_spec : {M : Type 1} → statement M
new_spec 𝓤 𝓛 𝓜 𝓡 wired X Y L _ g d _ =
    let H = 𝓛.H in let 𝓣 = tables 𝓤 H 𝓜 𝓡 𝓡.env in let R : RattleType = param 0 X in let G : RattleType = param 1 Y in let En = ended X Y g d in let c = clauses X Y g d 𝓛 𝓜.mem 𝓡.returns in let E : El = record { row = X; laws = L } in
    let inst = bounded (a_type ∷ a_type ∷ []) (X, (Y, tt)) (dcons d dnil) in let fn = inst_fn inst code.function in let closed = code.unfolded 𝓤 H 𝓜 𝓡 wired (X, (Y, tt)) d in
    let item = plain (λ _. R) in let about = RefOf (0 ∷ []) tt (plain (λ _. G)) (λ _. tt) in let hs : Stays En.signature.params En.kept = (stay_dropped item no, (stay_dropped about yes, tt)) in let F : RattleType = inside.the_row R G g in let D = denote.Struct.Declared.shape (inside.the_type R G g) in let fine : (v : Val) → Good E v → T (has_ty (layout X) v && true) = λ v h. and_tt (has_ty (layout X) v) h.0 in
    proved_at 𝓛 En hs c 𝓜 𝓡 (Goes-dropped 𝓛 3 item no (λ κs x f. refl), (Goes-dropped 𝓛 3 about yes (λ κs x f. refl), tt)) (#self inst) fn closed (λ z are.
    let x : X.Denot = z.0.3.0 in let tag : Y.Denot = z.0.3.1.0.now in let at : Val = vptr z.0.3.1.0.ref_ptr.0 z.0.3.1.0.ref_ptr.1 in let ok = g.fits tag in let got = one E z.0.4.0 ((lawful E 𝓛).typed x z.0.4.0 are.0) in let vy : Val = got.0 in let fy : Good E vy = got.2 in let v : Val = vstruct (vcons (vint w64 0) (vcons vy vnil)) in
    let Post : Val → SProp 𝓤 = (walk_of 𝓛 En hs c).post z in let Run : List Val → SProp 𝓤 = λ ws. WpFn 𝓤 H 𝓣.C 𝓣.Λ fn ws Post in
    let typed : T (has_ty (layout X) vy && true) × WT v = (fine vy fy, (record { fits = lit< tt }, (fy.1, tt))) in
    qed 𝓛 ((raw (alive 𝓛 En.signature z.0.0 z.0.1) ⊛ ‵ (owns (types_at En.signature.params z.0.0) z.0.3 z.0.4)) ∷ raw (fact 𝓤 _) ∷ raw (fact 𝓤 _) ∷ raw (fact 𝓤 (ok x)) ∷ []) ∵
    keep ! (3 ∷ 0 ∷ []) $ heard ! (ok x) (λ fit. split ! $ move ! (1 ∷ []) $ fsplit ! $ move ! (1 ∷ []) $ drop ! $ nothing ! $ move ! (1 ∷ []) $
    rewrite ! 0 (λ (ws : List Val). ‵ (R.own_val x ws)) got.1 refl $ flt_i ! 0 (2 ^ 64) (lit< tt) $ feq_i ! (List Val) (vint w64 0 ∷ []) (vint w64 0 ∷ []) refl $ fjoin ! $ fjoin3 ! $
    feq_i ! (List Val) (v ∷ []) (v ∷ []) refl $ fjoin ! $ fpack ! (Valss (u64 ∷ R ∷ [])) (within D (0, (x, tt)) (v ∷ [])) (vint w64 0 ∷ [], (vy ∷ [], tt)) $
    nothing ! $ fpack ! (ok x) (λ _. ftrue) fit $ move ! (1 ∷ 0 ∷ []) $ fjoin ! $
    fpack ! (ℕ × X.Denot) (λ s. fsep (F.own_val (record { word = s.0; value = s.1 }) (v ∷ [])) (fex (ok s.1) (λ _. ftrue))) (0, x) $ nothing ! $ fpack ! (Typed F.mir (v ∷ [])) (λ _. ftrue) (typed, tt) $ fjoin ! $
    suffices ! (Run (vy ∷ at ∷ [])) (subst (λ (ws : List Val). ent 𝓤 (Run (vy ∷ at ∷ [])) (Run ws)) (sym (λ i. got.1 i ++ (are.1.0.0 i ++ []))) (id⊢ 𝓤 (Run (vy ∷ at ∷ [])))) $
    enter ! 𝓣.C 𝓣.Λ fn (vy ∷ at ∷ []) Post $ alloc_all ! (λ l. pass_all ! refl (fy, ((tt, tt), tt)) $ sets ! (of_opd ! (get ! refl)) refl fy $
    sets ! (agg ! (and_then ! (lit ! tt) (and_then ! (get ! refl) (no_more !)))) refl typed $
    use0 𝓛 (raw (fact 𝓤 (LeftBehind x))) (fact_i 𝓤 (LeftBehind x) (emp 𝓤) (left x)) $ use0 𝓛 (raw (fact 𝓤 (tag ≡ tag))) (fact_i 𝓤 (tag ≡ tag) (emp 𝓤) refl) $ join ! $ nothing ! $ nothing ! $ fjoin ! $ nothing ! $ fjoin ! $
    -- [the parameters; what is ensured; the lock; the tokens]
    returns ! (look_at ! 0 refl) $ free_all ! refl $ keep ! (3 ∷ 0 ∷ 2 ∷ 1 ∷ []) $ by ! (leaves 𝓛 En hs c z v tag (tt, (tt, tt)) (tt, (tt, tt))))))
