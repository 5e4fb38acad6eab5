use Rattle.std.proofs.Common.{◌≡◌, None, subst, sym, ◌∙◌}
use Rattle.std.proofs.Math.ListN.{replicate}
use Rattle.dash_shard.specs.inner.Table.{IsMoved, pairs_in, slots_in}
use Rattle.dash_shard.proofs.Placing.{moved-none, no-items, blank-untaken}
use Rattle.dash_shard.proofs.shard.table.Table.shrink.Goals as goal

pub returns-then-self-eq0-clause-moved : goal.returns-then-self-eq0-clause-moved
returns-then-self-eq0-clause-moved g c =
    subst (λ x. IsMoved c.args.self.now x) (sym c.replace.ensures.after) (moved-none c.args.self.now c.new-blank.result c.requires.table c.if-self-eq0.true c.new-blank.ensures.table c.new-blank.ensures.empty)

pub end_blank-requires : goal.end_blank-requires
end_blank-requires g c =
    let gone = blank-untaken (pairs_in c.args.self.now) (no-items _ (sym c.requires.table.counted ∙ c.if-self-eq0.true)) in
    subst (λ t. pairs_in t ≡ replicate (slots_in t) None) (sym c.replace.ensures.value) gone
