use Rattle.std.proofs.Common.{◌+◌, false, get_or, drop, subst, sym, ◌∙◌}
use Rattle.std.specs.Prelude.{nat_eq, IsTrue}
use Rattle.std.proofs.lemmas.List.{drop_all}
use Rattle.dash_shard.specs.Contents.{EachOnce}
use Rattle.dash_script.proofs.PlainMaps.{once-found, once-less, once-more, once-none, none-once, left-first, is-value, is-other}
use Rattle.dash_script.proofs.threads.replay.has_just.Goals as goal

never : IsTrue false → ⊥
never h = cc

pub returns-then-ne : goal.returns-then-ne
returns-then-ne c =
    let p = get_or c.args.pairs.now c.loop-pair.pair-index (0, 0) in
    let rest = drop (c.loop-pair.pair-index + 1) c.args.pairs.now in
    let E = c.loop-pair.plain.entries in (
      λ y. absurd (never y),
      λ once. absurd (is-other c.remove.result p.1 c.if-ne.ensures (c.remove.ensures.value ∙ once-found E E p rest (subst (EachOnce nat_eq E) (left-first c.args.pairs.now c.loop-pair.pair-index c.loop-pair-test.true) (c.loop-pair.invariant.0 once)))),
    )

pub loop-pair-preserved : goal.loop-pair-preserved
loop-pair-preserved c =
    let p = get_or c.args.pairs.now c.loop-pair.pair-index (0, 0) in
    let rest = drop (c.loop-pair.pair-index + 1) c.args.pairs.now in
    let E = c.loop-pair.plain.entries in
    let first = left-first c.args.pairs.now c.loop-pair.pair-index c.loop-pair-test.true in (
      λ once. once-less E c.remove.new.self.entries p rest c.remove.ensures.updates.0 (subst (EachOnce nat_eq E) first (c.loop-pair.invariant.0 once)),
      λ once. c.loop-pair.invariant.1 (subst (EachOnce nat_eq E) (sym first) (once-more E c.remove.new.self.entries p rest c.remove.ensures.updates.0 (sym c.remove.ensures.value ∙ is-value c.remove.result p.1 c.if-ne.ensures) once)),
    )

pub returns : goal.returns
returns c =
    let E = c.loop-pair.plain.entries in
    let none = drop_all c.loop-pair.pair-index c.args.pairs.now c.loop-pair-test.false in (
      λ y. c.loop-pair.invariant.1 (subst (EachOnce nat_eq E) (sym none) (none-once E (c.is_empty.ensures.0 y))),
      λ once. c.is_empty.ensures.1 (once-none E (subst (EachOnce nat_eq E) none (c.loop-pair.invariant.0 once))),
    )
