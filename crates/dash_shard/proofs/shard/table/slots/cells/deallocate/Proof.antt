-- `deallocate` makes room of the empty slots, and hands it back with the allocator's token.
use Rattle.dash_shard.proofs.SlotRows.Walking.{cells_own, deed_owns, to_room, El, R, elτ, Al, token, Gives, at_gives, Gives-goes, Gives-Gives, Goes-blank, uncapped, block_ty, block_size, block_align, pair_args, P, [], List, arith, refl, sym, ap, subst, w64, ℕ, ◌*◌, ◌<◌, ◌^◌, ◌∙◌, ◌∷◌, ◌≡◌, leaves, proved, None, Option, word, word-Good, after, Fml, Lft, Share, froom, flft, fsep, ftrue, SProp, id⊢, never, fact, tables, RefOf, usize, no, yes, uint_Tells, uint_vals, owns, Ptr, ptr_val, in_a_block, shr_Tells, shr_vals, plain, types_at, heard, nothing, Goes-dropped, Stays, stay_dropped, walk_of, replicate, length-replicate, inst_fn, named, Val, vint, vptr, vunit, T, has_ty, WT, ty_unit, ty_array, align, capped, capped_fits, Incl-trans, ◌⊑◌, alloc_all, env, free_all, get, get_in, is, lands_last, look_at, pass_all, sets, !, at_ret, await, by, drop, feq_i, fjoin, flt_l, fsplit, fsplit3, given, group, join, keep, later, learn, move, qed, raw, rewrite, split, use1, ‵, ◌$◌, ◌∵◌, ◌⊛◌, sub, whole, and_then, no_more, align_word, size_word, bin, blocks, enter, exec, first, fld, of_opd, returns, stop, unit_lit, as_raw, calls_at_last, fm}
use Rattle.dash_shard.proofs.SlotRows.Places.{Row, At, sz, Deeds, mark, start_vals, start_Tells, mark_Tells, deed_Tells}
use Rattle.dash_shard.specs.contracts.shard.table.slots.cells.deallocate.{ended, clauses}
use Rattle.dash_shard.specs.contracts.shard.table.slots.cells.deallocate.Key.{name as #self}
use Rattle.dash_shard.proofs.shard.table.slots.cells.deallocate.Statement.{statement}
use Rattle.dash_shard.proofs.shard.table.slots.cells.deallocate.Code as code

pub deallocate_spec : {M : Type 1} → statement M
deallocate_spec 𝓤 𝓛 𝓜 𝓡 wired X W LX LW g d dd met md =
    let H = 𝓛.H in let 𝓣 = tables 𝓤 H 𝓜 𝓡 𝓡.env in let E : El = record { row = X; laws = LX } in let Z : Al = record { row = W; laws = LW; g = g; d = d; drops = dd } in
    let En = ended X W g d dd in let c = clauses X W g d dd 𝓛 𝓜.mem 𝓡.returns in let fn = inst_fn (pair_args E Z) code.function in
    let handle = RefOf (0 ∷ []) tt (plain (λ _. P E Z)) (λ _. tt) in let start = plain (λ _. At E) in let number = plain (λ _. usize) in let row = plain (λ _. Row E) in let right = plain (λ _. Deeds E Z) in
    let hs : Stays En.signature.params En.kept = (stay_dropped handle yes, (stay_dropped start no, (stay_dropped number yes, (stay_dropped row no, (stay_dropped right no, tt))))) in
    proved 𝓛 En hs c 𝓜 𝓡 (Goes-dropped 𝓛 3 handle yes (λ κs x f. refl), (Goes-dropped 𝓛 3 start no (λ κs x f. refl), (Goes-dropped 𝓛 3 number yes (λ κs x f. refl), (Goes-blank 𝓛 3 row no (λ κs x f. tt), (Goes-blank 𝓛 3 right no (λ κs x f. tt), tt)))))
    (#self (pair_args E Z)) fn (code.unfolded 𝓤 H 𝓜 𝓡 wired (X, (W, tt)) d dd) (λ κs. (shr_vals, (start_vals E, (uint_vals w64, ((λ _. mark ∷ []), ((λ _. mark ∷ []), tt))))))
    (λ κs. (shr_Tells (named 0) κs.0 (P E Z), (start_Tells E, (uint_Tells w64, (mark_Tells E, (deed_Tells E Z, tt)))))) (λ κs qs bounds a gh are.
    let κ : Lft = κs.0 in let q : Share = qs.0 in let others : Fml = fsep (flft κs.1.0 qs.1.0) (fsep (flft κs.1.1.0 qs.1.1.0) ftrue) in let hb : ℕ = a.0.ref_ptr.0 in let ho : ℕ = a.0.ref_ptr.1 in let h : W.Denot = a.0.now in let p : Ptr = a.1.0.ptr in let n : ℕ = a.1.1.0 in
    let cells : (Row E).Denot = a.1.1.1.0 in let deed : (Deeds E Z).Denot = a.1.1.1.1.0 in let asks : Type 0 = (cells.at ≡ p) × (cells.slots ≡ replicate n None) in let frees : Type 0 = (deed.at ≡ p) × (deed.len ≡ n) × (deed.alloc ≡ h) in let inside : Type 0 = κs.1.1.0 ⊑ W.lives in
    let bits : List Val = vptr hb ho ∷ word p ∷ vint w64 n ∷ mark ∷ mark ∷ [] in
    let y : (walk_of 𝓛 En hs c).Ghost = ((κs, qs, bounds, a, (vptr hb ho ∷ [], (word p ∷ [], (vint w64 n ∷ [], (mark ∷ [], (mark ∷ [], tt)))))), gh) in let Post : Val → SProp 𝓤 = (walk_of 𝓛 En hs c).post y in
    qed 𝓛 (((‵ (flft κ q) ⊛ ‵ others) ⊛ ‵ (owns (types_at En.signature.params κs) a y.0.4)) ∷ raw (fact 𝓤 _) ∷ raw (fact 𝓤 _) ∷ raw (fact 𝓤 asks) ∷ raw (fact 𝓤 frees) ∷ []) ∵
    keep ! (4 ∷ 3 ∷ 2 ∷ 0 ∷ []) $ heard ! frees (λ freed. heard ! asks (λ asked. heard ! inside (λ within. split ! $ split ! $ move ! (2 ∷ []) $ fsplit3 ! $ fsplit ! $ move ! (3 ∷ []) $ fsplit3 ! $ move ! (1 ∷ []) $ fsplit ! $ drop ! $ move ! (2 ∷ []) $ fsplit ! $ fsplit ! $ keep ! (3 ∷ 1 ∷ 6 ∷ 8 ∷ 9 ∷ []) $
    enter ! 𝓣.C 𝓣.Λ fn bits Post $ alloc_all ! (λ l. pass_all ! refl ((tt, tt), (word-Good [] p, ((tt, record { fits = are.1.1.0.1 }), ((tt, (tt, tt)), ((tt, (tt, tt)), tt))))) $ let Ev = env fn.locals l in let s : ℕ = sz E in let al : ℕ = capped (align (elτ E)) in
    -- [the slots; the deed; the handle; κ; the other tokens]
    rewrite ! 0 (λ (z : Ptr × List (Option X.Denot)). ‵ (cells_own (R E) z.0 z.1)) (λ i. (asked.0 i, asked.1 i)) refl $
    in_a_block ! p (λ z. cells_own (R E) z (replicate n None)) (id⊢ 𝓤 (never 𝓤)) (λ b o e. fsplit ! $ flt_l ! (λ fit.
    let small : n * s < 2 ^ 63 = subst (λ k. k * s < 2 ^ 63) (length-replicate n None) fit in let bytes : n * s < 2 ^ 64 = omega arith in let G = Gives Z 𝓛 𝓜.mem 𝓡.returns in
    let z : G.Ghost = at_gives Z 𝓛 𝓜.mem 𝓡.returns κ q (hb, ho) h b o (n * s) al (block_ty E n) in
    rewrite ! 1 (λ (z : W.Denot × Ptr × ℕ). ‵ (deed_owns (R E) (token Z z.0) z.1 z.2)) (λ i. (freed.2 i, (freed.0 ∙ e) i, freed.1 i)) refl $
    use1 𝓛 (‵ (froom (ty_array (elτ E) n) b o)) (to_room E 𝓛 b n o) $ as_raw ! (ty_array (elτ E) n) b o $ first ! $ blocks ! $
    sets ! (is ! (of_opd ! (get_in ! (fld ! refl (stop !)) (sub ! 0 refl (whole !)))) (ap ptr_val e)) refl (tt, tt) $
    sets ! (is ! (bin ! (get ! refl) (size_word !) (record { fits = subst (λ (k : ℕ). k < 2 ^ 64) (sym (uncapped n s bytes)) bytes })) (ap (vint w64) (uncapped n s bytes))) refl (tt, record { fits = bytes }) $
    group ! 4 $ use1 𝓛 (raw (G.pre z)) (Gives-goes Z 𝓛 𝓜.mem 𝓡.returns κ q (hb, ho) h (Incl-trans bounds.0 within) b o (n * s) al (block_ty E n) (block_size E n bytes) (block_align E n) bytes (capped_fits (align (elτ E)))) $
    calls_at_last ! (fm 𝓛 𝓜 𝓡) G (met.deallocate dd) z (and_then ! (get ! refl) (and_then ! (get ! refl) (and_then ! (get ! refl) (and_then ! (align_word !) (no_more !))))) (λ v.
    use1 𝓛 (later (given (v ≡ vunit) (‵ (flft κ q)))) (Gives-Gives Z 𝓛 𝓜.mem 𝓡.returns κ q (hb, ho) h b o (n * s) al (block_ty E n) v) $ await ! tt $ learn ! (λ gone.
    lands_last ! refl (subst (λ (w : Val). T (has_ty ty_unit w) × WT w) (sym gone) (tt, tt)) $ exec ! 𝓣.C 𝓣.Λ Ev (after 1 fn.body) (at_ret Ev Post) $ sets ! (of_opd ! (unit_lit !)) refl (tt, tt) $
    -- [κ; the other tokens]
    join ! $ nothing ! $ feq_i ! (List Val) (vunit ∷ []) (vunit ∷ []) refl $ nothing ! $ nothing ! $ fjoin ! $ nothing ! $ fjoin ! $ nothing ! $ fjoin ! $ nothing ! $ fjoin ! $ nothing ! $ fjoin ! $
    -- [the parameters; the result; what is ensured; the tokens]
    returns ! (look_at ! 0 refl) $ free_all ! refl $ keep ! (3 ∷ 0 ∷ 1 ∷ 2 ∷ []) $ by ! (leaves 𝓛 En hs c y vunit tt (tt, (tt, (tt, (tt, (tt, tt))))) (tt, (tt, (tt, (tt, (tt, tt)))))))))))))))
