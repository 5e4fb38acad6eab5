use Rattle.std.proofs.Common.{rules, refl, false, ◌≡◌, length, map, get_or, ap, sym, ◌∙◌, arith, ⊎_elim}
use Rattle.std.proofs.lemmas.Bool.{both_ways}
use Rattle.std.specs.Prelude.{IsTrue}
use Rattle.dash_history.specs.History.{alike_record}
use Rattle.dash_history.proofs.Following.{followed-none, followed-all, left-over, turn, turn-log, turn-differs, turn-followed}
use Rattle.dash_history.proofs.matching.follows.Goals as goal

never : IsTrue false → ⊥
never h = cc

pub loop-at-init : goal.loop-at-init
loop-at-init g c = followed-none (alike_record g.K.Kept.alike g.V.Kept.alike g.A.Kept.alike) (map (λ s. s.history) c.args.row.now) c.args.ats.now c.args.logs.now c.in_ok-next.next.items (c.in_ok-next.ensures.items_if_clones_equal (λ y h. h))

pub record_at-record-requires : goal.record_at-record-requires
record_at-record-requires g c = (turn (map (λ s. s.history) c.args.row.now) c.args.ats.now c.args.logs.now c.args.index.now c.requires.merge c.requires.callers c.requires.finds c.loop-at.at-index c.loop-at-test.true).names

pub bounds-index-at : goal.bounds-index-at
bounds-index-at g c = (turn (map (λ s. s.history) c.args.row.now) c.args.ats.now c.args.logs.now c.args.index.now c.requires.merge c.requires.callers c.requires.finds c.loop-at.at-index c.loop-at-test.true).below

pub index-k-requires : goal.index-k-requires
index-k-requires g c =
    let t = turn (map (λ s. s.history) c.args.row.now) c.args.ats.now c.args.logs.now c.args.index.now c.requires.merge c.requires.callers c.requires.finds c.loop-at.at-index c.loop-at-test.true in
    omega (arith, t.within, c.loop-at.invariant.long, c.loop-at.next.ok.0)

pub offset_bounds-logs-log : goal.offset_bounds-logs-log
offset_bounds-logs-log g c =
    let within = (turn (map (λ s. s.history) c.args.row.now) c.args.ats.now c.args.logs.now c.args.index.now c.requires.merge c.requires.callers c.requires.finds c.loop-at.at-index c.loop-at-test.true).within in
    search rules

pub bounds-logs-log : goal.bounds-logs-log
bounds-logs-log g c = (turn (map (λ s. s.history) c.args.row.now) c.args.ats.now c.args.logs.now c.args.index.now c.requires.merge c.requires.callers c.requires.finds c.loop-at.at-index c.loop-at-test.true).within

pub returns-then-not-says : goal.returns-then-not-says
returns-then-not-says g c =
    let t = turn (map (λ s. s.history) c.args.row.now) c.args.ats.now c.args.logs.now c.args.index.now c.requires.merge c.requires.callers c.requires.finds c.loop-at.at-index c.loop-at-test.true in
    let differs = turn-differs t c.loop-at.invariant c.record_at-record.result.now c.record_at-record.ensures c.index-logs-log.result c.index-logs-log.is c.index-k.result.now c.index-k.ensures (sym c.says.ensures.says ∙ c.if-not-says.true) in
    let log = turn-log t c.loop-at.invariant c.record_at-record.result.now c.record_at-record.ensures c.index-logs-log.result c.index-logs-log.is c.index-k.result.now c.index-k.ensures in
    (λ y. absurd (never y), λ keeps. absurd (both_ways _ differs (keeps _ _ log)))

pub overflow_add-k : goal.overflow_add-k
overflow_add-k g c = let few = c.if-not-says.ensures.few refl in search rules

pub index_mut-requires : goal.index_mut-requires
index_mut-requires g c =
    let t = turn (map (λ s. s.history) c.args.row.now) c.args.ats.now c.args.logs.now c.args.index.now c.requires.merge c.requires.callers c.requires.finds c.loop-at.at-index c.loop-at-test.true in
    omega (arith, t.within, c.loop-at.invariant.long, c.loop-at.next.ok.0)

pub loop-at-preserved : goal.loop-at-preserved
loop-at-preserved g c =
    let t = turn (map (λ s. s.history) c.args.row.now) c.args.ats.now c.args.logs.now c.args.index.now c.requires.merge c.requires.callers c.requires.finds c.loop-at.at-index c.loop-at-test.true in
    turn-followed t c.loop-at.invariant c.record_at-record.result.now c.record_at-record.ensures c.index-logs-log.result c.index-logs-log.is c.index-k.result.now c.index-k.ensures (sym c.says.ensures.says ∙ c.if-not-says.false) (length c.args.index.now) c.requires.owners

pub returns : goal.returns
returns g c =
    let past = c.loop-at-test.false in
    let next : c.deref.result.now ≡ c.loop-at.next.items = c.deref.ensures.value in (
      λ y n l e. followed-all (alike_record g.K.Kept.alike g.V.Kept.alike g.A.Kept.alike) (map (λ s. s.history) c.args.row.now) c.args.ats.now c.args.logs.now c.loop-at.at-index c.loop-at.next.items c.loop-at.invariant past
          (λ m x f. ap (λ ns. get_or ns m 0) (sym next) ∙ c.ended.ensures.all y m x f) n l e,
      λ keeps. ⊎_elim (λ y. y)
          (λ o. absurd (both_ways _ (left-over (alike_record g.K.Kept.alike g.V.Kept.alike g.A.Kept.alike) (map (λ s. s.history) c.args.row.now) c.args.ats.now c.args.logs.now c.loop-at.at-index c.loop-at.next.items c.loop-at.invariant past o.0 o.1 o.2
          (λ q. o.3 (ap (λ ns. get_or ns o.0 0) next ∙ q))) (keeps o.0 o.1 o.2))) c.ended.ensures.some,
    )
