-- `allocate` makes empty slots of the room of a new block, and keeps the right to give it back.
use Rattle.dash_shard.proofs.SlotRows.Walking.{slots, of_room, El, R, elτ, Al, Answer-typed, Answered, Takes, at_takes, Takes-goes, Takes-gives, answers, uncapped, block_ty, block_size, block_align, pair_args, P, [], arith, refl, sym, ap, subst, lit<, w64, ℕ, ◌*◌, ◌<◌, ◌^◌, ◌∷◌, ◌≡◌, true, false, leaves, proved, None, IfOk, Ok, Err, FitsInBlock, word, word-Good, Good, first_Good, after, head, arm_body, Fml, Lft, Share, flft, fsep, ftrue, SProp, emp, fact, fact_i, tables, RefOf, usize, yes, layout, uint_Tells, uint_vals, RattleType, owns, Ptr, block_ptr, shr_Tells, shr_vals, plain, types_at, heard, nothing, owned, Goes-dropped, Stays, stay_dropped, walk_of, Struct, Struct-Makes, Is, Tuple, length, replicate, length-replicate, inst_fn, named, Body, Val, vint, vptr, vstruct, vcons, vnil, ty_array, align, capped, capped_fits, Incl-trans, ◌⊑◌, alloc_all, env, free_all, get, get_in, get_tag, is, lands_as, look_at, pass_all, sets, sets_last, !, After, any_q, at_ret, await, by, fjoin, flt_i, fsplit, join, keep, later, move, qed, raw, split, use0, use1, use2, use3, ‵, ◌$◌, ◌∵◌, ◌⊛◌, agg, whole, vrt, in_variant, live, switches_on, lit, and_then, no_more, align_word, size_word, bin, enter, exec, first, fld, of_opd, returns, stop, as_written, calls_at, fm, Wp, after_seq, at_return, three_val, three_of, word_made, ok_of, err_of}
use denote.Struct.Declared as Declared
use Rattle.core.specs.contracts.result.Result as results
use Rattle.core.specs.contracts.alloc.AllocError as errors
use Rattle.dash_shard.proofs.SlotRows.Places.{Row, At, Mark, sz, Deeds, mark, mark_made}
use Rattle.dash_shard.specs.contracts.shard.table.slots.cells.allocate.{ended, clauses}
use Rattle.dash_shard.specs.contracts.shard.table.slots.cells.allocate.Key.{name as #self}
use Rattle.dash_shard.proofs.shard.table.slots.cells.allocate.Statement.{statement}
use Rattle.dash_shard.proofs.shard.table.slots.cells.allocate.Code as code

pub allocate_spec : {M : Type 1} → statement M
allocate_spec 𝓤 𝓛 𝓜 𝓡 wired X W LX LW g d dd met md =
    let H = 𝓛.H in let 𝓣 = tables 𝓤 H 𝓜 𝓡 𝓡.env in let E : El = record { row = X; laws = LX } in let Z : Al = record { row = W; laws = LW; g = g; d = d; drops = dd } in
    let En = ended X W g d dd in let c = clauses X W g d dd 𝓛 𝓜.mem 𝓡.returns in let fn = inst_fn (pair_args E Z) code.function in
    let handle = RefOf (0 ∷ []) tt (plain (λ _. P E Z)) (λ _. tt) in let number = plain (λ _. usize) in let hs : Stays En.signature.params En.kept = (stay_dropped handle yes, (stay_dropped number yes, tt)) in
    let Three : RattleType = Tuple (At E ∷ Row E ∷ Deeds E Z ∷ []) in let Out : RattleType = results.the_row Three errors.the_row in
    proved 𝓛 En hs c 𝓜 𝓡 (Goes-dropped 𝓛 3 handle yes (λ κs x f. refl), (Goes-dropped 𝓛 3 number yes (λ κs x f. refl), tt))
    (#self (pair_args E Z)) fn (code.unfolded 𝓤 H 𝓜 𝓡 wired (X, (W, tt)) d dd) (λ κs. (shr_vals, (uint_vals w64, tt))) (λ κs. (shr_Tells (named 0) κs.0 (P E Z), (uint_Tells w64, tt))) (λ κs qs bounds a gh are.
    let κ : Lft = κs.0 in let q : Share = qs.0 in let others : Fml = fsep (flft κs.1.0 qs.1.0) (fsep (flft κs.1.1.0 qs.1.1.0) ftrue) in let hb : ℕ = a.0.ref_ptr.0 in let ho : ℕ = a.0.ref_ptr.1 in let h : W.Denot = a.0.now in let n : ℕ = a.1.0 in
    let asks : Type 0 = FitsInBlock (R E) n in let inside : Type 0 = κs.1.1.0 ⊑ W.lives in
    let empty : Out.Denot → Type 0 = λ r. IfOk r (λ t. (t.1.at ≡ t.0.ptr) × (t.1.slots ≡ replicate n None) × (t.1.labels ≡ replicate n 0)) in let freed : Out.Denot → Type 0 = λ r. IfOk r (λ t. (t.2.at ≡ t.0.ptr) × (t.2.len ≡ n) × (t.2.alloc ≡ h)) in
    let y : (walk_of 𝓛 En hs c).Ghost = ((κs, qs, bounds, a, (vptr hb ho ∷ [], (vint w64 n ∷ [], tt))), gh) in let Post : Val → SProp 𝓤 = (walk_of 𝓛 En hs c).post y in
    qed 𝓛 (((‵ (flft κ q) ⊛ ‵ others) ⊛ ‵ (owns (types_at En.signature.params κs) a y.0.4)) ∷ raw (fact 𝓤 _) ∷ raw (fact 𝓤 _) ∷ raw (fact 𝓤 asks) ∷ []) ∵
    keep ! (3 ∷ 2 ∷ 0 ∷ []) $ heard ! asks (λ asked. heard ! inside (λ within. split ! $ split ! $ move ! (2 ∷ []) $ fsplit ! $ fsplit ! $ keep ! (1 ∷ 3 ∷ 4 ∷ []) $
    let s : ℕ = sz E in let bytes : n * s < 2 ^ 64 = omega (arith, asked.0) in let al : ℕ = capped (align (elτ E)) in let G = Takes Z 𝓛 𝓜.mem 𝓡.returns in let z : G.Ghost = at_takes Z 𝓛 𝓜.mem 𝓡.returns κ q (hb, ho) h (n * s) al (block_ty E n) in
    enter ! 𝓣.C 𝓣.Λ fn (vptr hb ho ∷ vint w64 n ∷ []) Post $ alloc_all ! (λ l. pass_all ! refl ((tt, tt), ((tt, record { fits = are.1.0.1 }), tt)) $ let Ev = env fn.locals l in
    let arms : Body = head (after 2 fn.body) in let Then : After 𝓤 H = any_q (after_seq 𝓤 H (Wp 𝓤 H 𝓣.C 𝓣.Λ Ev (after 3 fn.body) (at_return 𝓤 H Ev Post)) (at_return 𝓤 H Ev Post)) in
    -- [the handle; κ; the other tokens]
    sets ! (is ! (bin ! (get ! refl) (size_word !) (record { fits = subst (λ (k : ℕ). k < 2 ^ 64) (sym (uncapped n s bytes)) bytes })) (ap (vint w64) (uncapped n s bytes))) refl (tt, record { fits = bytes }) $
    use2 𝓛 (raw (G.pre z)) (Takes-goes Z 𝓛 𝓜.mem 𝓡.returns κ q (hb, ho) h (Incl-trans bounds.0 within) (n * s) al (block_ty E n) (block_size E n bytes) (block_align E n) bytes (capped_fits (align (elτ E)))) $
    calls_at ! (fm 𝓛 𝓜 𝓡) G (met.allocate dd) z (and_then ! (get ! refl) (and_then ! (get ! refl) (and_then ! (align_word !) (no_more !)))) (λ v.
    use1 𝓛 (later (raw (Answered Z 𝓛 𝓜.mem 𝓡.returns h (block_ty E n) v) ⊛ ‵ (flft κ q))) (Takes-gives Z 𝓛 𝓜.mem 𝓡.returns κ q (hb, ho) h (n * s) al (block_ty E n) v) $ await ! tt $ split ! $
    answers Z ! 𝓜.mem 𝓡.returns h (block_ty E n) v
    (λ b o e. let p : Ptr = block_ptr b o in let start : (At E).Denot = record { ptr = p } in let cells : (Row E).Denot = record { mark = record {}; at = p; slots = replicate n None; labels = replicate n 0 } in
    let deed : (Deeds E Z).Denot = record { mark = record {}; at = p; len = n; alloc = h } in let made : Val = three_val (word p) mark mark in let typed : Good (layout Three) made = (tt, ((tt, tt), ((tt, tt), ((tt, tt), tt)))) in
    let r : Out.Denot = Ok (start, cells, deed) in let res : Val = live 0 (vcons made vnil) in let ok = first_Good (layout Three) made typed in
    lands_as ! e refl (Answer-typed true b o) $ first ! $ switches_on ! (get_tag ! (vrt ! refl (fld ! refl (stop !))) (whole !)) $ exec ! 𝓣.C 𝓣.Λ Ev (arm_body 0 arms) Then $
    sets ! (of_opd ! (get_in ! (vrt ! refl (fld ! refl (stop !))) (in_variant ! 0 0 refl refl (whole !)))) refl (tt, tt) $ sets ! (of_opd ! (get ! refl)) refl (tt, tt) $ sets ! (agg ! (and_then ! (get ! refl) (no_more !))) refl (word-Good [] p) $
    sets ! (agg ! (no_more !)) refl (tt, tt) $ sets ! (agg ! (and_then ! (get ! refl) (no_more !))) refl (tt, (tt, tt)) $ sets ! (agg ! (no_more !)) refl (tt, tt) $ sets ! (agg ! (and_then ! (get ! refl) (no_more !))) refl (tt, (tt, tt)) $
    sets ! (agg ! (and_then ! (get ! refl) (and_then ! (get ! refl) (and_then ! (get ! refl) (no_more !))))) refl typed $ sets_last ! (agg ! (and_then ! (lit ! tt) (and_then ! (get ! refl) (no_more !)))) refl ok $
    exec ! 𝓣.C 𝓣.Λ Ev (after 3 fn.body) (at_ret Ev Post) $ sets ! (of_opd ! (get ! refl)) refl ok $
    -- [the room; the token of the block; κ; the other tokens]
    move ! (1 ∷ []) $ use0 𝓛 (‵ ((Mark E).own_val (tt, tt) (mark ∷ []))) (mark_made E 𝓛) $ fjoin ! $ move ! (1 ∷ []) $ as_written ! (ty_array (elτ E) n) b o $ use1 𝓛 (‵ (slots (R E) b o cells.slots)) (of_room E 𝓛 b n o) $
    flt_i ! (length cells.slots * s) (2 ^ 63) (subst (λ k. k * s < 2 ^ 63) (sym (length-replicate n None)) asked.0) $ fjoin ! $ use0 𝓛 (‵ ((Mark E).own_val (tt, tt) (mark ∷ []))) (mark_made E 𝓛) $ fjoin ! $ word_made ! p $
    use3 𝓛 (‵ (Three.own_val (start, cells, deed) (made ∷ []))) (three_of 𝓛 (At E) (Row E) (Deeds E Z) start cells deed (word p) mark mark) $ use1 𝓛 (‵ (Out.own_val r (res ∷ []))) (ok_of 𝓛 Three errors.the_row (start, cells, deed) made) $
    move ! (1 ∷ 2 ∷ []) $ join ! $ use0 𝓛 (raw (fact 𝓤 (freed r))) (fact_i 𝓤 (freed r) (emp 𝓤) (refl, refl, refl)) $ use0 𝓛 (raw (fact 𝓤 (empty r))) (fact_i 𝓤 (empty r) (emp 𝓤) (refl, refl, refl)) $ join ! $ nothing ! $ nothing ! $ fjoin ! $ nothing ! $ fjoin ! $
    -- [the parameters; what is ensured; the tokens; the result]
    returns ! (look_at ! 0 refl) $ free_all ! refl $ keep ! (2 ∷ 0 ∷ 3 ∷ 1 ∷ []) $ by ! (leaves 𝓛 En hs c y res r (tt, (tt, tt)) (tt, (tt, tt))))
    (λ e. let Refusal : RattleType = Struct (Declared.shape errors.the_type) in let r : Out.Denot = Err (record {}) in let res : Val = live 1 (vcons (vstruct vnil) vnil) in let none : Good (layout Out) res = (tt, (record { fits = lit< tt }, (tt, tt))) in
    lands_as ! e refl (Answer-typed false 0 0) $ first ! $ switches_on ! (get_tag ! (vrt ! refl (fld ! refl (stop !))) (whole !)) $ exec ! 𝓣.C 𝓣.Λ Ev (arm_body 1 arms) Then $
    sets ! (of_opd ! (get_in ! (vrt ! refl (fld ! refl (stop !))) (in_variant ! 1 0 refl refl (whole !)))) refl (tt, tt) $ sets_last ! (agg ! (and_then ! (lit ! tt) (and_then ! (get ! refl) (no_more !)))) refl none $
    exec ! 𝓣.C 𝓣.Λ Ev (after 3 fn.body) (at_ret Ev Post) $ sets ! (of_opd ! (get ! refl)) refl none $
    -- [κ; the other tokens]
    join ! $ owned ! Refusal (Is Refusal) (Struct-Makes 𝓛 (Declared.shape errors.the_type) tt) tt (vstruct vnil ∷ []) (tt, (refl, tt)) $ use1 𝓛 (‵ (Out.own_val r (res ∷ []))) (err_of 𝓛 Three errors.the_row (record {}) (vstruct vnil)) $
    use0 𝓛 (raw (fact 𝓤 (freed r))) (fact_i 𝓤 (freed r) (emp 𝓤) tt) $ use0 𝓛 (raw (fact 𝓤 (empty r))) (fact_i 𝓤 (empty r) (emp 𝓤) tt) $ join ! $ nothing ! $ nothing ! $ fjoin ! $ nothing ! $ fjoin ! $
    -- [the parameters; what is ensured; the result; the tokens]
    returns ! (look_at ! 0 refl) $ free_all ! refl $ keep ! (3 ∷ 0 ∷ 2 ∷ 1 ∷ []) $ by ! (leaves 𝓛 En hs c y res r (tt, (tt, tt)) (tt, (tt, tt)))))))))
