use Rattle.dash_shard.proofs.SlotRows.Rows.{reaches}
use Rattle.dash_shard.proofs.shard.table.slots.Slots.get_mut.Goals as goal

pub get_mut-requires : goal.get_mut-requires
get_mut-requires g c = let s = c.self.inside in reaches s.start s.cells s.deed s.len c.args.index c.args.self.now c.self.invariant c.self.view_is c.requires
