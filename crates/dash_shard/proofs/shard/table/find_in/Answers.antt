use Rattle.std.proofs.Common.{◌+◌, sym, ◌∙◌}
use Rattle.dash_shard.proofs.Searching.{holds}
use Rattle.dash_shard.proofs.shard.table.find_in.Goals as goal

pub get-requires : goal.get-requires
get-requires g c = c.requires.taken c.split_lowest-lane.result.0 c.split_lowest-lane.ensures.bound (c.loop-key.invariant.some c.split_lowest-lane.result.0 c.split_lowest-lane.ensures.bound c.split_lowest-lane.ensures.set)

pub returns-then-names-clause-found : goal.returns-then-names-clause-found
returns-then-names-clause-found g c = holds (g.Q.Query.names c.args.key) c.args.slots.now.values (c.args.start + c.split_lowest-lane.result.0) c.get.result.now c.get.ensures (sym c.names.ensures ∙ c.if-names.true)
