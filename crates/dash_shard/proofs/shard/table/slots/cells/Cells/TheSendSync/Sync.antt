use denote.RattleType.{RattleType}
use denote.Param.Send.{IsSync}
use Rattle.dash_shard.proofs.SlotRows.Crosses.{cells-sync}
use Rattle.dash_shard.specs.contracts.shard.table.slots.cells.Cells.{the_row}

pub sync : (R : RattleType) → IsSync R → IsSync (the_row R)
sync = cells-sync
