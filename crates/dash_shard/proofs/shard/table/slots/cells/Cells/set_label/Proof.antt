-- `set_label` changes what proofs know of a slot, and nothing in memory.
use Rattle.dash_shard.proofs.SlotRows.Walking.{El, args, [], List, refl, w64, ℕ, ◌∷◌, ◌≡◌, leaves, proved, Fml, Lft, flft, fsep, ftrue, SProp, emp, fact, fact_i, tables, usize, yes, uint_Tells, uint_vals, owns, mut_Tells, mut_vals, plain, types_at, closes, nothing, opens, Goes-dropped, Goes-ref, Stays, stay_dropped, stay_ref, walk_of, inst_fn, named, Val, vint, vptr, vunit, alloc_all, env, free_all, look_at, pass_all, sets, !, by, feq_i, fjoin, fjoin3, fsplit, fsplit3, join, keep, move, qed, raw, split, use0, ‵, ◌$◌, ◌∵◌, ◌⊛◌, enter, of_opd, returns, unit_lit}
use Rattle.dash_shard.proofs.SlotRows.Places.{Row}
use Rattle.dash_shard.specs.inner.SlotRows.Cells.{with_label}
use Rattle.dash_shard.specs.contracts.shard.table.slots.cells.Cells.set_label.{ended, clauses}
use Rattle.dash_shard.specs.contracts.shard.table.slots.cells.Cells.set_label.Key.{name as #self}
use Rattle.dash_shard.proofs.shard.table.slots.cells.Cells.set_label.Statement.{statement}
use Rattle.dash_shard.proofs.shard.table.slots.cells.Cells.set_label.Code as code

pub set_label_spec : {M : Type 1} → statement M
set_label_spec 𝓤 𝓛 𝓜 𝓡 wired X L =
    let H = 𝓛.H in let 𝓣 = tables 𝓤 H 𝓜 𝓡 𝓡.env in let E : El = record { row = X; laws = L } in let En = ended X in let c = clauses X 𝓛 𝓜.mem 𝓡.returns in let fn = inst_fn (args E) code.function in
    let number = plain (λ _. usize) in
    let hs : Stays En.signature.params En.kept = (stay_ref (0 ∷ []) tt (plain (λ _. Row E)), (stay_dropped number yes, (stay_dropped number yes, tt))) in
    proved 𝓛 En hs c 𝓜 𝓡 (Goes-ref 𝓛 2 0 tt (plain (λ _. Row E)), (Goes-dropped 𝓛 2 number yes (λ κs x f. refl), (Goes-dropped 𝓛 2 number yes (λ κs x f. refl), tt)))
    (#self (args E)) fn (code.unfolded 𝓤 H 𝓜 𝓡 wired (X, tt)) (λ κs. (mut_vals, (uint_vals w64, (uint_vals w64, tt)))) (λ κs. (mut_Tells (named 0) κs.0 (Row E), (uint_Tells w64, (uint_Tells w64, tt)))) (λ κs qs bounds a g are.
    let b : ℕ = a.0.ref_ptr.0 in let o : ℕ = a.0.ref_ptr.1 in let d : (Row E).Denot = a.0.now in let i : ℕ = a.1.0 in let n : ℕ = a.1.1.0 in let κ : Lft = κs.0 in let others : Fml = fsep (flft κs.1.0 qs.1.0) ftrue in
    let new : (Row E).Denot = with_label d i n in
    let y : (walk_of 𝓛 En hs c).Ghost = ((κs, qs, bounds, a, (vptr b o ∷ [], (vint w64 i ∷ [], (vint w64 n ∷ [], tt)))), g) in let Post : Val → SProp 𝓤 = (walk_of 𝓛 En hs c).post y in
    qed 𝓛 (((‵ (flft κ qs.0) ⊛ ‵ others) ⊛ ‵ (owns (types_at En.signature.params κs) a y.0.4)) ∷ raw (fact 𝓤 _) ∷ raw (emp 𝓤) ∷ []) ∵
    keep ! (0 ∷ []) $ split ! $ split ! $ move ! (2 ∷ []) $ fsplit ! $ fsplit3 ! $ keep ! (1 ∷ 2 ∷ 4 ∷ 5 ∷ []) $
    enter ! 𝓣.C 𝓣.Λ fn (vptr b o ∷ vint w64 i ∷ vint w64 n ∷ []) Post $ alloc_all ! (λ l. pass_all ! refl ((tt, tt), ((tt, record { fits = are.1.0.1 }), ((tt, record { fits = are.1.1.0.1 }), tt))) $ let Ev = env fn.locals l in
    opens ! tt (Row E) {h = d} b o (λ vs. closes ! tt (Row E) new vs b o $ sets ! (of_opd ! (unit_lit !)) refl (tt, tt) $
    -- [self, in two parts; κ; the other tokens]
    move ! (2 ∷ 3 ∷ []) $ join ! $ move ! (1 ∷ 2 ∷ []) $ feq_i ! (List Val) (vptr b o ∷ []) (vptr b o ∷ []) refl $ fjoin3 ! $ nothing ! $ nothing ! $ fjoin ! $ nothing ! $ fjoin ! $ move ! (1 ∷ 0 ∷ []) $ fjoin ! $
    use0 𝓛 (raw (fact 𝓤 (new ≡ new))) (fact_i 𝓤 (new ≡ new) (emp 𝓤) refl) $ feq_i ! (List Val) (vunit ∷ []) (vunit ∷ []) refl $
    returns ! (look_at ! 0 refl) $ free_all ! refl $ keep ! (3 ∷ 2 ∷ 0 ∷ 1 ∷ []) $ by ! (leaves 𝓛 En hs c y vunit tt (new, (tt, (tt, tt))) (tt, (tt, (tt, tt)))))))
