-- `no_slots` makes the slots of nothing, at the place that it is given.
use Rattle.dash_shard.proofs.SlotRows.Walking.{word_made, El, args, [], arith, refl, ℕ, ◌*◌, ◌^◌, ◌∷◌, ◌≡◌, leaves, proved, word, word-Good, Good, Fml, Lft, flft, fsep, ftrue, SProp, emp, fact, fact_i, tables, RefOf, yes, layout, RattleType, owns, Ptr, block_ptr, shr_Tells, shr_vals, plain, types_at, nothing, Goes-dropped, Stays, stay_dropped, walk_of, Tuple, inst_fn, named, Val, vptr, alloc_all, free_all, get, look_at, pass_all, sets, through, !, by, fjoin, flt_i, join, keep, move, qed, raw, split, use0, use2, ‵, ◌$◌, ◌∵◌, ◌⊛◌, agg, addr, and_then, no_more, enter, of_opd, returns, stop}
use denote.Builtin.{u8}
use Rattle.dash_shard.proofs.SlotRows.Places.{Row, At, Mark, sz, mark, mark_made}
use Rattle.std_alloc.proofs.Pairs.{pair_of, pair_val}
use Rattle.dash_shard.specs.contracts.shard.table.slots.cells.no_slots.{ended, clauses}
use Rattle.dash_shard.specs.contracts.shard.table.slots.cells.no_slots.Key.{name as #self}
use Rattle.dash_shard.proofs.shard.table.slots.cells.no_slots.Statement.{statement}
use Rattle.dash_shard.proofs.shard.table.slots.cells.no_slots.Code as code

pub no_slots_spec : {M : Type 1} → statement M
no_slots_spec 𝓤 𝓛 𝓜 𝓡 wired X L =
    let H = 𝓛.H in let 𝓣 = tables 𝓤 H 𝓜 𝓡 𝓡.env in let E : El = record { row = X; laws = L } in let En = ended X in let c = clauses X 𝓛 𝓜.mem 𝓡.returns in let fn = inst_fn (args E) code.function in
    let place = RefOf (0 ∷ []) tt (plain (λ _. u8)) (λ _. tt) in let hs : Stays En.signature.params En.kept = (stay_dropped place yes, tt) in let Two : RattleType = Tuple (At E ∷ Row E ∷ []) in
    proved 𝓛 En hs c 𝓜 𝓡 (Goes-dropped 𝓛 2 place yes (λ κs x f. refl), tt)
    (#self (args E)) fn (code.unfolded 𝓤 H 𝓜 𝓡 wired (X, tt)) (λ κs. (shr_vals, tt)) (λ κs. (shr_Tells (named 0) κs.0 u8, tt)) (λ κs qs bounds a g are.
    let b : ℕ = a.0.ref_ptr.0 in let o : ℕ = a.0.ref_ptr.1 in let p : Ptr = block_ptr b o in let κ : Lft = κs.0 in let others : Fml = fsep (flft κs.1.0 qs.1.0) ftrue in
    let empty : Two.Denot → Type 0 = λ r. (r.1.at ≡ r.0.ptr) × (r.1.slots ≡ []) × (r.1.labels ≡ []) in
    let start : (At E).Denot = record { ptr = p } in let cells : (Row E).Denot = record { mark = record {}; at = p; slots = []; labels = [] } in let r : Two.Denot = (start, cells) in
    let made : Val = pair_val (word p) mark in let typed : Good (layout Two) made = (tt, ((tt, tt), ((tt, tt), tt))) in
    let y : (walk_of 𝓛 En hs c).Ghost = ((κs, qs, bounds, a, (vptr b o ∷ [], tt)), g) in let Post : Val → SProp 𝓤 = (walk_of 𝓛 En hs c).post y in
    qed 𝓛 (((‵ (flft κ qs.0) ⊛ ‵ others) ⊛ ‵ (owns (types_at En.signature.params κs) a y.0.4)) ∷ raw (fact 𝓤 _) ∷ raw (emp 𝓤) ∷ []) ∵
    keep ! (0 ∷ []) $ split ! $ split ! $ keep ! (0 ∷ 1 ∷ []) $
    enter ! 𝓣.C 𝓣.Λ fn (vptr b o ∷ []) Post $ alloc_all ! (λ l. pass_all ! refl ((tt, tt), tt) $
    -- [κ; the other tokens]
    sets ! (addr ! (through ! refl (stop !))) refl (tt, tt) $ sets ! (of_opd ! (get ! refl)) refl (tt, tt) $ sets ! (agg ! (and_then ! (get ! refl) (no_more !))) refl (word-Good [] p) $
    sets ! (agg ! (no_more !)) refl (tt, tt) $ sets ! (agg ! (and_then ! (get ! refl) (no_more !))) refl (tt, (tt, tt)) $ sets ! (agg ! (and_then ! (get ! refl) (and_then ! (get ! refl) (no_more !)))) refl typed $
    nothing ! $ flt_i ! (0 * sz E) (2 ^ 63) (omega arith) $ fjoin ! $ use0 𝓛 (‵ ((Mark E).own_val (tt, tt) (mark ∷ []))) (mark_made E 𝓛) $ fjoin ! $ word_made ! p $
    use2 𝓛 (‵ (Two.own_val r (made ∷ []))) (pair_of 𝓛 (At E) (Row E) start cells (word p) mark) $
    -- [the result; κ; the other tokens]
    move ! (1 ∷ 2 ∷ []) $ join ! $ use0 𝓛 (raw (fact 𝓤 (empty r))) (fact_i 𝓤 (empty r) (emp 𝓤) (refl, refl, refl)) $ nothing ! $ nothing ! $ fjoin ! $
    -- [the parameter; what is ensured; the tokens; the result]
    returns ! (look_at ! 0 refl) $ free_all ! refl $ keep ! (2 ∷ 0 ∷ 3 ∷ 1 ∷ []) $ by ! (leaves 𝓛 En hs c y made r (tt, tt) (tt, tt))))
