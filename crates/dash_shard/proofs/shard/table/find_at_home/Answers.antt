use Rattle.std.proofs.Common.{◌+◌, sym, ◌∙◌}
use Rattle.dash_shard.proofs.Searching.{holds}
use Rattle.dash_shard.proofs.shard.table.find_at_home.Goals as goal

pub get-requires : goal.get-requires
get-requires g c = c.requires.taken c.args.own c.requires.own (c.has_lane.ensures.0 c.if-has_lane.true)

pub returns-then-names-clause-found : goal.returns-then-names-clause-found
returns-then-names-clause-found g c = holds (g.Q.Query.names c.args.key) c.args.slots.now.values (c.args.start + c.args.own) c.get.result.now c.get.ensures (sym c.names.ensures ∙ c.if-names.true)
