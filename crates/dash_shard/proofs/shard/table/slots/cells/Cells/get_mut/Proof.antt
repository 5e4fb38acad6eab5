-- `get_mut` lends one value, and the block follows it.
use Rattle.dash_shard.proofs.SlotRows.Walking.{slot, slots, cells_own, slot_out, slot_in, Besides, filled_within, IsFilled, El, R, args, one_below, times_below, [], List, arith, refl, sym, subst, w64, ℕ, ◌*◌, ◌+◌, ◌<◌, ◌^◌, ◌∙◌, ◌∷◌, ◌≡◌, leaves, proved, None, Option, Some, word, word-Good, after, Fml, GName, Lft, Share, fat, flft, fsep, ftrue, full_share, SProp, ent, emp, sep, id⊢, never, fact, fact_i, tables, usize, no, yes, layout, uint_Tells, uint_vals, owns, Ptr, block_ptr, in_a_block, MutBor, MutRef, mem, part_of, cell_at, mut_Tells, mut_vals, mut_ref_to, plain, types_at, heard, nothing, opens, Goes-dropped, Goes-spent_ref, Stays, stay_dropped, walk_of, get_or, length, length-set, inst_fn, named, Val, vint, vptr, alloc_all, env, free_all, get, get_in, give_at, look_at, pass_all, sets, sets_last, take_at, through, !, at_ret, await, by, done, fjoin, fjoin3, fpack, flt_i, flt_l, fsplit, fsplit3, group, join, keep, later, move, pick, qed, raw, rewrite, some, split, split3, use0, use1, use2, ‵, ◌$◌, ◌∵◌, ◌⊛◌, sub, whole, addr, bin, blocks, enter, exec, first, fld, of_opd, returns, size_lit, stop, Logic, Ura, sem, follows, Part, lends_Part}
use Rattle.dash_shard.proofs.SlotRows.Places.{Row, At, Mark, sz, start_vals, start_Tells}
use Rattle.dash_shard.specs.inner.SlotRows.Cells.{with_slot}
use Rattle.dash_shard.specs.contracts.shard.table.slots.cells.Cells.get_mut.{ended, clauses}
use Rattle.dash_shard.specs.contracts.shard.table.slots.cells.Cells.get_mut.Key.{name as #self}
use Rattle.dash_shard.proofs.shard.table.slots.cells.Cells.get_mut.Statement.{statement}
use Rattle.dash_shard.proofs.shard.table.slots.cells.Cells.get_mut.Code as code

module _ (E : El) {M : Type 1} {𝓤 : Ura M} (𝓛 : Logic 𝓤) (d : (Row E).Denot) (i : ℕ) (b o : ℕ) (vs : List Val) (rb ro : ℕ) where
  -- all but the value
  abbrev Rest : Fml
  Rest = fsep (Besides E 𝓛 rb ro d.slots i) (fsep ((Mark E).own_val (tt, tt) vs) (cell_at full_share (Row E).mir vs b o))

  -- the block, once the value ended as w
  way : d.at ≡ block_ptr rb ro → i < length d.slots → length d.slots * sz E < 2 ^ 63
      → (w : E.row.Denot) → ent 𝓤 (sep 𝓤 (sem 𝓛 ((mem (R E)).own_at w rb (i * sz E + ro))) (sem 𝓛 Rest)) (sem 𝓛 ((mem (Row E)).own_at (with_slot d i (Some w)) b o))
  unfolding part_of
  way e within small w = let new : (Row E).Denot = with_slot d i (Some w) in let s : ℕ = sz E in
      qed 𝓛 (‵ (slot (R E) rb (i * s + ro) (Some w)) ∷ ‵ Rest ∷ []) ∵ move ! (1 ∷ []) $ fsplit3 ! $ move ! (3 ∷ 0 ∷ []) $ use2 𝓛 (‵ (slots (R E) rb ro new.slots)) (slot_in E 𝓛 rb ro d.slots i within (Some w)) $
      flt_i ! (length new.slots * s) (2 ^ 63) (subst (λ k. k * s < 2 ^ 63) (sym (length-set d.slots i (Some w))) small) $ fjoin ! $ rewrite ! 0 (λ (z : Ptr). ‵ (cells_own (R E) z new.slots)) (sym e) refl $
      move ! (1 ∷ 0 ∷ []) $ fjoin ! $ move ! (1 ∷ 0 ∷ []) $ fjoin ! $ fpack ! (List Val) (λ us. fsep (cell_at full_share (Row E).mir us b o) ((Row E).own_val new us)) vs $ done !

pub get_mut_spec : {M : Type 1} → statement M
get_mut_spec 𝓤 𝓛 𝓜 𝓡 wired X L =
    let H = 𝓛.H in let 𝓣 = tables 𝓤 H 𝓜 𝓡 𝓡.env in let E : El = record { row = X; laws = L } in let En = ended X in let c = clauses X 𝓛 𝓜.mem 𝓡.returns in let fn = inst_fn (args E) code.function in
    let self = plain (λ _. Row E) in let start = plain (λ _. At E) in let number = plain (λ _. usize) in
    let hs : Stays En.signature.params En.kept = (stay_dropped (mut_ref_to (0 ∷ []) tt self) no, (stay_dropped start no, (stay_dropped number yes, tt))) in
    proved 𝓛 En hs c 𝓜 𝓡 (Goes-spent_ref 𝓛 2 (0 ∷ []) tt self, (Goes-dropped 𝓛 2 start no (λ κs x f. refl), (Goes-dropped 𝓛 2 number yes (λ κs x f. refl), tt)))
    (#self (args E)) fn (code.unfolded 𝓤 H 𝓜 𝓡 wired (X, tt)) (λ κs. (mut_vals, (start_vals E, (uint_vals w64, tt)))) (λ κs. (mut_Tells (named 0) κs.0 (Row E), (start_Tells E, (uint_Tells w64, tt)))) (λ κs qs bounds a g are.
    let b : ℕ = a.0.ref_ptr.0 in let o : ℕ = a.0.ref_ptr.1 in let γ : GName = a.0.ghost_name in let d : (Row E).Denot = a.0.now in let p : Ptr = a.1.0.ptr in let i : ℕ = a.1.1.0 in let κ : Lft = κs.0 in let q : Share = qs.0 in let others : Fml = fsep (flft κs.1.0 qs.1.0) ftrue in
    let asks : Type 0 = (p ≡ d.at) × IsFilled d.slots i in let new : X.Denot → (Row E).Denot = λ w. with_slot d i (Some w) in let found : X.Denot → Type 0 = λ r. get_or d.slots i None ≡ Some r in
    let y : (walk_of 𝓛 En hs c).Ghost = ((κs, qs, bounds, a, (vptr b o ∷ [], (word p ∷ [], (vint w64 i ∷ [], tt)))), g) in let Post : Val → SProp 𝓤 = (walk_of 𝓛 En hs c).post y in
    qed 𝓛 (((‵ (flft κ q) ⊛ ‵ others) ⊛ ‵ (owns (types_at En.signature.params κs) a y.0.4)) ∷ raw (fact 𝓤 _) ∷ raw (fact 𝓤 asks) ∷ []) ∵
    keep ! (2 ∷ 0 ∷ []) $ heard ! asks (λ asked. let x = asked.1.0 in let within : i < length d.slots = filled_within d.slots i x asked.1.1 in
    split ! $ split ! $ move ! (2 ∷ []) $ fsplit ! $ fsplit3 ! $ keep ! (1 ∷ 2 ∷ 4 ∷ 5 ∷ []) $
    enter ! 𝓣.C 𝓣.Λ fn (vptr b o ∷ word p ∷ vint w64 i ∷ []) Post $ alloc_all ! (λ l. pass_all ! refl ((tt, tt), (word-Good [] p, ((tt, record { fits = are.1.1.0.1 }), tt))) $ let Ev = env fn.locals l in
    -- [self, in two parts; κ; the other tokens]
    opens ! tt (Row E) {h = d} b o (λ vs. move ! (1 ∷ []) $ fsplit ! $ move ! (1 ∷ []) $ in_a_block ! d.at (λ z. cells_own (R E) z d.slots) (id⊢ 𝓤 (never 𝓤)) (λ rb ro e. fsplit ! $ flt_l ! (λ small.
    let s : ℕ = sz E in let tiny : s < 2 ^ 64 = omega (arith, one_below (length d.slots) s (2 ^ 63) (omega arith) small) in let far : i * s < 2 ^ 64 = omega (arith, times_below i (length d.slots) s (2 ^ 63) (omega arith) small) in let at : ℕ = i * s + ro in
    take_at ! 2 $ rewrite ! 0 (λ (z : Ptr). ‵ (fat full_share (layout (At E)) (l 2) 0 (word z))) (asked.0 ∙ e) refl $ give_at ! 2 $ first ! $ blocks ! $
    sets ! (bin ! (get ! refl) (size_lit ! (record { fits = tiny })) (record { fits = far })) refl (tt, record { fits = far }) $
    sets ! (bin ! (get_in ! (fld ! refl (stop !)) (sub ! 0 refl (whole !))) (get ! refl) tt) refl (tt, tt) $
    use1 𝓛 (‵ (slot (R E) rb at (get_or d.slots i None)) ⊛ ‵ (Besides E 𝓛 rb ro d.slots i)) (slot_out E 𝓛 rb ro d.slots i within) $ split ! $ rewrite ! 0 (λ (z : Option X.Denot). ‵ (slot (R E) rb at z)) asked.1.1 refl $
    let rest : SProp 𝓤 = sem 𝓛 (Rest E 𝓛 d i b o vs rb ro) in let back = way E 𝓛 d i b o vs rb ro e within small in let code_of = (Row E).coded.code d in
    sets_last ! (addr ! (through ! refl (stop !))) refl (tt, tt) $ exec ! 𝓣.C 𝓣.Λ Ev (after 1 fn.body) (at_ret Ev Post) $ sets ! (of_opd ! (get ! refl)) refl (tt, tt) $
    -- [the slot; the other slots; the mark; its cell; the open borrow, in three entries; the other tokens]
    move ! (1 ∷ 2 ∷ 3 ∷ []) $ fjoin3 ! $ move ! (2 ∷ 3 ∷ 4 ∷ 1 ∷ 0 ∷ []) $ group ! 5 $
    use1 𝓛 (later (some (λ (δ : GName). raw (Part 𝓛 (Row E) (R E) new (named 0) κ q b o rb at γ rest back x δ)))) (lends_Part 𝓛 (Row E) (R E) new (named 0) κ q b o rb at γ rest back code_of code_of x) $
    await ! tt $ pick ! (λ δ. let r : MutBor X.Denot = record { ref_ptr = (rb, at); ghost_name = δ; now = x } in
    use1 𝓛 (‵ ((MutRef (named 0) κ (R E)).own_val r (vptr rb at ∷ [])) ⊛ ‵ (flft κ q) ⊛ ‵ (follows (Row E) (R E) γ δ new)) (id⊢ 𝓤 _) $ split3 ! $
    -- [the value; κ; what follows it; the other tokens]
    use0 𝓛 (raw (fact 𝓤 (found x))) (fact_i 𝓤 (found x) (emp 𝓤) asked.1.1) $ move ! (3 ∷ 0 ∷ []) $ join ! $ move ! (2 ∷ 3 ∷ []) $ join ! $ nothing ! $ nothing ! $ fjoin ! $ nothing ! $ fjoin ! $ nothing ! $ fjoin ! $
    -- [the parameters; the tokens; what is ensured; the value]
    returns ! (look_at ! 0 refl) $ free_all ! refl $ keep ! (1 ∷ 0 ∷ 3 ∷ 2 ∷ []) $ by ! (leaves 𝓛 En hs c y (vptr rb at) r (tt, (tt, (tt, tt))) (tt, (tt, (tt, tt)))))))))))
