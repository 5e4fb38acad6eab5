use denote.RattleType.{RattleType}
use denote.Param.Send.{IsSync}
use Rattle.core.specs.declared.alloc.Allocator.{Ghosts}
use Rattle.dash_shard.proofs.SlotRows.Crosses.{deed-sync}
use Rattle.dash_shard.specs.contracts.shard.table.slots.cells.Deed.{the_row}

pub sync : (R A : RattleType) (g : Ghosts A.Denot) → IsSync (the_row R A g)
sync = deed-sync
