-- `take` reads a value out of its slot, whose memory is room then.
use Rattle.dash_shard.proofs.SlotRows.Walking.{slot, slots, cells_own, slot_out, slot_in, value_out, Besides, filled_within, IsFilled, El, R, elτ, args, one_below, times_below, [], List, arith, refl, sym, subst, w64, ℕ, ◌*◌, ◌+◌, ◌<◌, ◌^◌, ◌∙◌, ◌∷◌, ◌≡◌, leaves, proved, None, Option, Some, Good, word, word-Good, after, Fml, Lft, fat, froom, flft, fsep, ftrue, full_share, SProp, emp, id⊢, never, fact, fact_i, tables, usize, no, yes, layout, uint_Tells, uint_vals, owns, Ptr, in_a_block, mut_Tells, mut_vals, plain, types_at, closes, heard, nothing, opens, Goes-dropped, Goes-ref, Stays, stay_dropped, stay_ref, walk_of, get_or, length, length-set, inst_fn, named, Val, vint, vptr, alloc_all, env, free_all, get, get_in, give_at, look_at, pass_all, sets, sets_last, take_at, through, !, at_ret, by, feq_i, fjoin, fjoin3, flt_i, flt_l, fsplit, fsplit3, given, join, keep, learn, move, pick, qed, raw, rewrite, some, split, use0, use1, use2, ‵, ◌$◌, ◌∵◌, ◌⊛◌, sub, whole, load, look, bin, blocks, enter, exec, first, fld, of_opd, returns, size_lit, stop, as_raw}
use Rattle.dash_shard.proofs.SlotRows.Places.{Row, At, sz, start_vals, start_Tells}
use Rattle.dash_shard.specs.inner.SlotRows.Cells.{with_slot}
use Rattle.dash_shard.specs.contracts.shard.table.slots.cells.Cells.take.{ended, clauses}
use Rattle.dash_shard.specs.contracts.shard.table.slots.cells.Cells.take.Key.{name as #self}
use Rattle.dash_shard.proofs.shard.table.slots.cells.Cells.take.Statement.{statement}
use Rattle.dash_shard.proofs.shard.table.slots.cells.Cells.take.Code as code

pub take_spec : {M : Type 1} → statement M
take_spec 𝓤 𝓛 𝓜 𝓡 wired X L =
    let H = 𝓛.H in let 𝓣 = tables 𝓤 H 𝓜 𝓡 𝓡.env in let E : El = record { row = X; laws = L } in let En = ended X in let c = clauses X 𝓛 𝓜.mem 𝓡.returns in let fn = inst_fn (args E) code.function in
    let start = plain (λ _. At E) in let number = plain (λ _. usize) in
    let hs : Stays En.signature.params En.kept = (stay_ref (0 ∷ []) tt (plain (λ _. Row E)), (stay_dropped start no, (stay_dropped number yes, tt))) in
    proved 𝓛 En hs c 𝓜 𝓡 (Goes-ref 𝓛 2 0 tt (plain (λ _. Row E)), (Goes-dropped 𝓛 2 start no (λ κs x f. refl), (Goes-dropped 𝓛 2 number yes (λ κs x f. refl), tt)))
    (#self (args E)) fn (code.unfolded 𝓤 H 𝓜 𝓡 wired (X, tt)) (λ κs. (mut_vals, (start_vals E, (uint_vals w64, tt)))) (λ κs. (mut_Tells (named 0) κs.0 (Row E), (start_Tells E, (uint_Tells w64, tt)))) (λ κs qs bounds a g are.
    let b : ℕ = a.0.ref_ptr.0 in let o : ℕ = a.0.ref_ptr.1 in let d : (Row E).Denot = a.0.now in let p : Ptr = a.1.0.ptr in let i : ℕ = a.1.1.0 in let κ : Lft = κs.0 in let others : Fml = fsep (flft κs.1.0 qs.1.0) ftrue in
    let asks : Type 0 = (p ≡ d.at) × IsFilled d.slots i in let new : (Row E).Denot = with_slot d i None in let found : X.Denot → Type 0 = λ r. get_or d.slots i None ≡ Some r in
    let y : (walk_of 𝓛 En hs c).Ghost = ((κs, qs, bounds, a, (vptr b o ∷ [], (word p ∷ [], (vint w64 i ∷ [], tt)))), g) in let Post : Val → SProp 𝓤 = (walk_of 𝓛 En hs c).post y in
    qed 𝓛 (((‵ (flft κ qs.0) ⊛ ‵ others) ⊛ ‵ (owns (types_at En.signature.params κs) a y.0.4)) ∷ raw (fact 𝓤 _) ∷ raw (fact 𝓤 asks) ∷ []) ∵
    keep ! (2 ∷ 0 ∷ []) $ heard ! asks (λ asked. let x = asked.1.0 in let within : i < length d.slots = filled_within d.slots i x asked.1.1 in
    split ! $ split ! $ move ! (2 ∷ []) $ fsplit ! $ fsplit3 ! $ keep ! (1 ∷ 2 ∷ 4 ∷ 5 ∷ []) $
    enter ! 𝓣.C 𝓣.Λ fn (vptr b o ∷ word p ∷ vint w64 i ∷ []) Post $ alloc_all ! (λ l. pass_all ! refl ((tt, tt), (word-Good [] p, ((tt, record { fits = are.1.1.0.1 }), tt))) $ let Ev = env fn.locals l in
    -- [self, in two parts; κ; the other tokens]
    opens ! tt (Row E) {h = d} b o (λ vs. move ! (1 ∷ []) $ fsplit ! $ move ! (1 ∷ []) $ in_a_block ! d.at (λ z. cells_own (R E) z d.slots) (id⊢ 𝓤 (never 𝓤)) (λ rb ro e. fsplit ! $ flt_l ! (λ small.
    let s : ℕ = sz E in let tiny : s < 2 ^ 64 = omega (arith, one_below (length d.slots) s (2 ^ 63) (omega arith) small) in let far : i * s < 2 ^ 64 = omega (arith, times_below i (length d.slots) s (2 ^ 63) (omega arith) small) in let at : ℕ = i * s + ro in
    take_at ! 2 $ rewrite ! 0 (λ (z : Ptr). ‵ (fat full_share (layout (At E)) (l 2) 0 (word z))) (asked.0 ∙ e) refl $ give_at ! 2 $ first ! $ blocks ! $
    sets ! (bin ! (get ! refl) (size_lit ! (record { fits = tiny })) (record { fits = far })) refl (tt, record { fits = far }) $
    sets ! (bin ! (get_in ! (fld ! refl (stop !)) (sub ! 0 refl (whole !))) (get ! refl) tt) refl (tt, tt) $
    use1 𝓛 (‵ (slot (R E) rb at (get_or d.slots i None)) ⊛ ‵ (Besides E 𝓛 rb ro d.slots i)) (slot_out E 𝓛 rb ro d.slots i within) $ split ! $
    rewrite ! 0 (λ (z : Option X.Denot). ‵ (slot (R E) rb at z)) asked.1.1 refl $
    use1 𝓛 (some (λ (v : Val). given (Good (elτ E) v) (‵ (fat full_share (elτ E) rb at v) ⊛ ‵ (X.own_val x (v ∷ []))))) (value_out 0 X L 𝓛 x rb at) $
    pick ! (λ v. learn ! (λ good. split ! $ sets_last ! (of_opd ! (load ! (through ! refl (stop !)) (look ! 0 refl))) refl good $
    exec ! 𝓣.C 𝓣.Λ Ev (after 1 fn.body) (at_ret Ev Post) $ sets ! (of_opd ! (get ! refl)) refl good $
    -- [the slot; the value; the other slots; the mark; its cell; the open borrow, in three entries; the other tokens]
    use1 𝓛 (‵ (froom (elτ E) rb at)) (𝓛.laws.at_room (elτ E) rb at v) $ as_raw ! (elτ E) rb at $ move ! (0 ∷ 2 ∷ []) $ use2 𝓛 (‵ (slots (R E) rb ro new.slots)) (slot_in E 𝓛 rb ro d.slots i within None) $
    flt_i ! (length new.slots * s) (2 ^ 63) (subst (λ k. k * s < 2 ^ 63) (sym (length-set d.slots i None)) small) $ fjoin ! $ rewrite ! 0 (λ (z : Ptr). ‵ (cells_own (R E) z new.slots)) (sym e) refl $
    move ! (2 ∷ 0 ∷ []) $ fjoin ! $ move ! (2 ∷ 0 ∷ 3 ∷ 4 ∷ 5 ∷ []) $ closes ! tt (Row E) new vs b o $
    -- [self, in two parts; κ; the value; the other tokens]
    move ! (2 ∷ 4 ∷ []) $ join ! $ move ! (1 ∷ 2 ∷ []) $ feq_i ! (List Val) (vptr b o ∷ []) (vptr b o ∷ []) refl $ fjoin3 ! $ nothing ! $ nothing ! $ fjoin ! $ nothing ! $ fjoin ! $ move ! (1 ∷ 0 ∷ []) $ fjoin ! $
    use0 𝓛 (raw (fact 𝓤 (new ≡ new))) (fact_i 𝓤 (new ≡ new) (emp 𝓤) refl) $ use0 𝓛 (raw (fact 𝓤 (found x))) (fact_i 𝓤 (found x) (emp 𝓤) asked.1.1) $ join ! $
    -- [what is ensured; the parameters; the tokens; the value]
    returns ! (look_at ! 0 refl) $ free_all ! refl $ keep ! (2 ∷ 1 ∷ 3 ∷ 0 ∷ []) $ by ! (leaves 𝓛 En hs c y v x (new, (tt, (tt, tt))) (tt, (tt, (tt, tt))))))))))))
