-- `get` shows one value of those that the block shows.
use Rattle.dash_shard.proofs.SlotRows.Walking.{slot_lent, cells_lent, slot_seen, filled_within, IsFilled, El, R, args, one_below, times_below, [], List, arith, refl, w64, ℕ, ◌*◌, ◌+◌, ◌<◌, ◌^◌, ◌∙◌, ◌∷◌, ◌≡◌, leaves, proved, None, Option, Some, word, word-Good, after, Fml, Lft, fat, flft, fsep, ftrue, full_share, SProp, emp, id⊢, never, fact, fact_i, tables, RefOf, usize, no, yes, hide, unhide, layout, uint_Tells, uint_vals, owns, Ptr, in_a_block, shr_Tells, shr_vals, plain, types_at, heard, nothing, Goes-dropped, Stays, stay_dropped, walk_of, get_or, length, inst_fn, named, Val, vint, vptr, alloc_all, env, free_all, get, get_in, give_at, look_at, pass_all, sets, sets_last, take_at, through, !, at_ret, by, drop, feq_i, fjoin, flt_l, fsplit, join, keep, move, qed, raw, rewrite, split, use0, use1, ‵, ◌$◌, ◌∵◌, ◌⊛◌, sub, whole, addr, bin, blocks, enter, exec, first, fld, of_opd, returns, size_lit, stop}
use Rattle.dash_shard.proofs.SlotRows.Places.{Row, At, sz, start_vals, start_Tells}
use Rattle.dash_shard.specs.contracts.shard.table.slots.cells.Cells.get.{ended, clauses}
use Rattle.dash_shard.specs.contracts.shard.table.slots.cells.Cells.get.Key.{name as #self}
use Rattle.dash_shard.proofs.shard.table.slots.cells.Cells.get.Statement.{statement}
use Rattle.dash_shard.proofs.shard.table.slots.cells.Cells.get.Code as code

pub get_spec : {M : Type 1} → statement M
get_spec 𝓤 𝓛 𝓜 𝓡 wired X L =
    let H = 𝓛.H in let 𝓣 = tables 𝓤 H 𝓜 𝓡 𝓡.env in let E : El = record { row = X; laws = L } in let En = ended X in let c = clauses X 𝓛 𝓜.mem 𝓡.returns in let fn = inst_fn (args E) code.function in
    let self = RefOf (0 ∷ []) tt (plain (λ _. Row E)) (λ _. tt) in let start = plain (λ _. At E) in let number = plain (λ _. usize) in
    let hs : Stays En.signature.params En.kept = (stay_dropped self yes, (stay_dropped start no, (stay_dropped number yes, tt))) in
    proved 𝓛 En hs c 𝓜 𝓡 (Goes-dropped 𝓛 2 self yes (λ κs x f. refl), (Goes-dropped 𝓛 2 start no (λ κs x f. refl), (Goes-dropped 𝓛 2 number yes (λ κs x f. refl), tt)))
    (#self (args E)) fn (code.unfolded 𝓤 H 𝓜 𝓡 wired (X, tt)) (λ κs. (shr_vals, (start_vals E, (uint_vals w64, tt)))) (λ κs. (shr_Tells (named 0) κs.0 (Row E), (start_Tells E, (uint_Tells w64, tt)))) (λ κs qs bounds a g are.
    let b : ℕ = a.0.ref_ptr.0 in let o : ℕ = a.0.ref_ptr.1 in let d : (Row E).Denot = a.0.now in let p : Ptr = a.1.0.ptr in let i : ℕ = a.1.1.0 in let κ : Lft = κs.0 in let others : Fml = fsep (flft κs.1.0 qs.1.0) ftrue in
    let asks : Type 0 = (p ≡ d.at) × IsFilled d.slots i in let shown : (r : X.Denot) → Type 0 = λ r. get_or d.slots i None ≡ Some r in
    let y : (walk_of 𝓛 En hs c).Ghost = ((κs, qs, bounds, a, (vptr b o ∷ [], (word p ∷ [], (vint w64 i ∷ [], tt)))), g) in let Post : Val → SProp 𝓤 = (walk_of 𝓛 En hs c).post y in
    qed 𝓛 (((‵ (flft κ qs.0) ⊛ ‵ others) ⊛ ‵ (owns (types_at En.signature.params κs) a y.0.4)) ∷ raw (fact 𝓤 _) ∷ raw (fact 𝓤 asks) ∷ []) ∵
    keep ! (2 ∷ 0 ∷ []) $ heard ! asks (λ asked. let x = asked.1.0 in let within : i < length d.slots = filled_within d.slots i x asked.1.1 in
    split ! $ split ! $ move ! (2 ∷ []) $ fsplit ! $ fsplit ! $ keep ! (1 ∷ 3 ∷ 4 ∷ []) $
    enter ! 𝓣.C 𝓣.Λ fn (vptr b o ∷ word p ∷ vint w64 i ∷ []) Post $ alloc_all ! (λ l. pass_all ! refl ((tt, tt), (word-Good [] p, ((tt, record { fits = are.1.1.0.1 }), tt))) $ let Ev = env fn.locals l in
    -- [self; κ; the other tokens]
    unhide ! $ fsplit ! $ drop ! $ in_a_block ! d.at (λ z. cells_lent (R E) z d.slots κ) (id⊢ 𝓤 (never 𝓤)) (λ rb ro e. fsplit ! $ flt_l ! (λ small.
    let s : ℕ = sz E in let tiny : s < 2 ^ 64 = omega (arith, one_below (length d.slots) s (2 ^ 63) (omega arith) small) in let far : i * s < 2 ^ 64 = omega (arith, times_below i (length d.slots) s (2 ^ 63) (omega arith) small) in
    take_at ! 2 $ rewrite ! 0 (λ (z : Ptr). ‵ (fat full_share (layout (At E)) (l 2) 0 (word z))) (asked.0 ∙ e) refl $ give_at ! 2 $ first ! $ blocks ! $
    sets ! (bin ! (get ! refl) (size_lit ! (record { fits = tiny })) (record { fits = far })) refl (tt, record { fits = far }) $
    sets ! (bin ! (get_in ! (fld ! refl (stop !)) (sub ! 0 refl (whole !))) (get ! refl) tt) refl (tt, tt) $
    use1 𝓛 (‵ (slot_lent (R E) rb (i * s + ro) (get_or d.slots i None) κ)) (slot_seen E 𝓛 rb κ ro d.slots i within) $
    rewrite ! 0 (λ (z : Option X.Denot). ‵ (slot_lent (R E) rb (i * s + ro) z κ)) asked.1.1 refl $ hide ! $
    sets_last ! (addr ! (through ! refl (stop !))) refl (tt, tt) $ exec ! 𝓣.C 𝓣.Λ Ev (after 1 fn.body) (at_ret Ev Post) $ sets ! (of_opd ! (get ! refl)) refl (tt, tt) $
    -- [the value; κ; the other tokens]
    feq_i ! (List Val) (vptr rb (i * s + ro) ∷ []) (vptr rb (i * s + ro) ∷ []) refl $ fjoin ! $ move ! (1 ∷ 2 ∷ []) $ join ! $
    use0 𝓛 (raw (fact 𝓤 (shown x))) (fact_i 𝓤 (shown x) (emp 𝓤) asked.1.1) $ nothing ! $ nothing ! $ fjoin ! $ nothing ! $ fjoin ! $ nothing ! $ fjoin ! $
    -- [the parameters; what is ensured; the tokens; the result]
    returns ! (look_at ! 0 refl) $ free_all ! refl $ keep ! (2 ∷ 0 ∷ 3 ∷ 1 ∷ []) $
    by ! (leaves 𝓛 En hs c y (vptr rb (i * s + ro)) (record { ref_ptr = (rb, i * s + ro); now = x }) (tt, (tt, (tt, tt))) (tt, (tt, (tt, tt)))))))))
