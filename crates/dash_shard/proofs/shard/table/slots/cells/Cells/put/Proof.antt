-- `put` writes a value into the room of an empty slot.
use Rattle.dash_shard.proofs.SlotRows.Walking.{slot, slots, cells_own, slot_out, slot_in, value_in, Besides, El, R, elτ, args, lawful, one, one_below, times_below, [], ◌++◌, List, arith, refl, sym, subst, w64, ℕ, ◌*◌, ◌+◌, ◌<◌, ◌^◌, ◌∙◌, ◌∷◌, ◌≡◌, leaves, proved_at, None, Option, Some, word, word-Good, after, Fml, Lft, fat, flft, fsep, ftrue, full_share, SProp, ent, emp, id⊢, never, fact, fact_i, tables, usize, no, yes, layout, uint_Tells, owns, Ptr, in_a_block, mut_Tells, plain, types_at, closes, heard, nothing, opens, Goes-dropped, Goes-ref, Stays, stay_dropped, stay_ref, walk_of, get_or, length, length-set, inst_fn, named, Val, vint, vptr, vunit, alloc_all, env, free_all, get, get_in, give_at, look_at, pass_all, sets, take_at, through, !, at_ret, by, feq_i, fjoin, fjoin3, flt_i, flt_l, fsplit, fsplit3, join, keep, move, qed, raw, rewrite, split, suffices, use0, use1, use2, ‵, ◌$◌, ◌∵◌, ◌⊛◌, sub, whole, init, unit_lit, assigns_last, bin, blocks, enter, exec, first, fld, of_opd, returns, size_lit, stop, as_written, WpFn}
use Rattle.dash_shard.proofs.SlotRows.Places.{Row, At, sz, start_Tells}
use Rattle.dash_shard.specs.inner.SlotRows.Cells.{with_slot}
use Rattle.dash_shard.specs.contracts.shard.table.slots.cells.Cells.put.{ended, clauses}
use Rattle.dash_shard.specs.contracts.shard.table.slots.cells.Cells.put.Key.{name as #self}
use Rattle.dash_shard.proofs.shard.table.slots.cells.Cells.put.Statement.{statement}
use Rattle.dash_shard.proofs.shard.table.slots.cells.Cells.put.Code as code

pub put_spec : {M : Type 1} → statement M
put_spec 𝓤 𝓛 𝓜 𝓡 wired X L =
    let H = 𝓛.H in let 𝓣 = tables 𝓤 H 𝓜 𝓡 𝓡.env in let E : El = record { row = X; laws = L } in let En = ended X in let c = clauses X 𝓛 𝓜.mem 𝓡.returns in let fn = inst_fn (args E) code.function in
    let start = plain (λ _. At E) in let number = plain (λ _. usize) in let value = plain (λ _. R E) in
    let hs : Stays En.signature.params En.kept = (stay_ref (0 ∷ []) tt (plain (λ _. Row E)), (stay_dropped start no, (stay_dropped number yes, (stay_dropped value no, tt)))) in
    proved_at 𝓛 En hs c 𝓜 𝓡 (Goes-ref 𝓛 2 0 tt (plain (λ _. Row E)), (Goes-dropped 𝓛 2 start no (λ κs x f. refl), (Goes-dropped 𝓛 2 number yes (λ κs x f. refl), (Goes-dropped 𝓛 2 value no (λ κs x f. refl), tt))))
    (#self (args E)) fn (code.unfolded 𝓤 H 𝓜 𝓡 wired (X, tt)) (λ z are.
    let a = z.0.3 in let vss = z.0.4 in let κ : Lft = z.0.0.0 in let others : Fml = fsep (flft z.0.0.1.0 z.0.1.1.0) ftrue in
    let b : ℕ = a.0.ref_ptr.0 in let o : ℕ = a.0.ref_ptr.1 in let d : (Row E).Denot = a.0.now in let p : Ptr = a.1.0.ptr in let i : ℕ = a.1.1.0 in let x : X.Denot = a.1.1.1.0 in
    let got = one E vss.1.1.1.0 ((lawful E 𝓛).typed x vss.1.1.1.0 are.1.1.1.0) in let v : Val = got.0 in let good = got.2 in
    let e0 : vss.0 ≡ vptr b o ∷ [] = mut_Tells (named 0) κ (Row E) a.0 vss.0 are.0 in let e1 = start_Tells E a.1.0 vss.1.0 are.1.0 in let e2 = uint_Tells w64 i vss.1.1.0 are.1.1.0 in
    let asks : Type 0 = (p ≡ d.at) × (i < length d.slots) × (get_or d.slots i None ≡ None) in let new : (Row E).Denot = with_slot d i (Some x) in
    let Post : Val → SProp 𝓤 = (walk_of 𝓛 En hs c).post z in let Run : List Val → SProp 𝓤 = λ ws. WpFn 𝓤 H 𝓣.C 𝓣.Λ fn ws Post in let bits : List Val = vptr b o ∷ word p ∷ vint w64 i ∷ v ∷ [] in
    qed 𝓛 (((‵ (flft κ z.0.1.0) ⊛ ‵ others) ⊛ ‵ (owns (types_at En.signature.params z.0.0) a vss)) ∷ raw (fact 𝓤 _) ∷ raw (fact 𝓤 asks) ∷ []) ∵
    keep ! (2 ∷ 0 ∷ []) $ heard ! asks (λ asked. let within : i < length d.slots = asked.1 in
    split ! $ split ! $ move ! (2 ∷ []) $ fsplit ! $ fsplit3 ! $ move ! (3 ∷ []) $ fsplit3 ! $ move ! (2 ∷ []) $ fsplit ! $ keep ! (5 ∷ 6 ∷ 7 ∷ 0 ∷ 8 ∷ []) $ rewrite ! 3 (λ (ws : List Val). ‵ (X.own_val x ws)) got.1 refl $
    suffices ! (Run bits) (subst (λ (ws : List Val). ent 𝓤 (Run bits) (Run ws)) (sym (λ j. e0 j ++ (e1 j ++ (e2 j ++ (got.1 j ++ []))))) (id⊢ 𝓤 (Run bits))) $
    enter ! 𝓣.C 𝓣.Λ fn bits Post $ alloc_all ! (λ l. pass_all ! refl ((tt, tt), (word-Good [] p, ((tt, record { fits = are.1.1.0.1 }), (good, tt)))) $ let Ev = env fn.locals l in
    -- [self, in two parts; κ; the value; the other tokens]
    opens ! tt (Row E) {h = d} b o (λ vs. move ! (1 ∷ []) $ fsplit ! $ move ! (1 ∷ []) $ in_a_block ! d.at (λ w. cells_own (R E) w d.slots) (id⊢ 𝓤 (never 𝓤)) (λ rb ro e. fsplit ! $ flt_l ! (λ small.
    let s : ℕ = sz E in let tiny : s < 2 ^ 64 = omega (arith, one_below (length d.slots) s (2 ^ 63) (omega arith) small) in let far : i * s < 2 ^ 64 = omega (arith, times_below i (length d.slots) s (2 ^ 63) (omega arith) small) in let at : ℕ = i * s + ro in
    take_at ! 2 $ rewrite ! 0 (λ (w : Ptr). ‵ (fat full_share (layout (At E)) (l 2) 0 (word w))) (asked.0 ∙ e) refl $ give_at ! 2 $ first ! $ blocks ! $
    sets ! (bin ! (get ! refl) (size_lit ! (record { fits = tiny })) (record { fits = far })) refl (tt, record { fits = far }) $
    sets ! (bin ! (get_in ! (fld ! refl (stop !)) (sub ! 0 refl (whole !))) (get ! refl) tt) refl (tt, tt) $
    use1 𝓛 (‵ (slot (R E) rb at (get_or d.slots i None)) ⊛ ‵ (Besides E 𝓛 rb ro d.slots i)) (slot_out E 𝓛 rb ro d.slots i within) $ split ! $
    rewrite ! 0 (λ (w : Option X.Denot). ‵ (slot (R E) rb at w)) asked.2 refl $ as_written ! (elτ E) rb at $
    sets ! (of_opd ! (get ! refl)) refl good $ assigns_last ! (of_opd ! (get ! refl)) (through ! refl (stop !)) (init ! 0 refl good) $
    exec ! 𝓣.C 𝓣.Λ Ev (after 1 fn.body) (at_ret Ev Post) $ sets ! (of_opd ! (unit_lit !)) refl (tt, tt) $
    -- [the slot; the other slots; the mark; its cell; the open borrow, in three entries; the value; the other tokens]
    move ! (0 ∷ 7 ∷ []) $ use2 𝓛 (‵ (slot (R E) rb at (Some x))) (value_in 0 X L 𝓛 x rb at v) $ use2 𝓛 (‵ (slots (R E) rb ro new.slots)) (slot_in E 𝓛 rb ro d.slots i within (Some x)) $
    flt_i ! (length new.slots * s) (2 ^ 63) (subst (λ k. k * s < 2 ^ 63) (sym (length-set d.slots i (Some x))) small) $ fjoin ! $ rewrite ! 0 (λ (w : Ptr). ‵ (cells_own (R E) w new.slots)) (sym e) refl $
    move ! (1 ∷ 0 ∷ []) $ fjoin ! $ move ! (1 ∷ 0 ∷ []) $ closes ! tt (Row E) new vs b o $
    -- [self, in two parts; κ; the other tokens]
    move ! (2 ∷ 3 ∷ []) $ join ! $ move ! (1 ∷ 2 ∷ []) $ feq_i ! (List Val) vss.0 (vptr b o ∷ []) e0 $ fjoin3 ! $ nothing ! $ nothing ! $ fjoin ! $ nothing ! $ fjoin ! $ nothing ! $ fjoin ! $ move ! (1 ∷ 0 ∷ []) $ fjoin ! $
    use0 𝓛 (raw (fact 𝓤 (new ≡ new))) (fact_i 𝓤 (new ≡ new) (emp 𝓤) refl) $ feq_i ! (List Val) (vunit ∷ []) (vunit ∷ []) refl $
    -- [the result; what is ensured; the parameters; the tokens]
    returns ! (look_at ! 0 refl) $ free_all ! refl $ keep ! (3 ∷ 2 ∷ 0 ∷ 1 ∷ []) $ by ! (leaves 𝓛 En hs c z vunit tt (new, (tt, (tt, (tt, tt)))) (tt, (tt, (tt, (tt, tt)))))))))))
