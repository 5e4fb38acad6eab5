use denote.RattleType.{RattleType}
use denote.Param.Send.{IsSend}
use Rattle.dash_shard.proofs.SlotRows.Crosses.{cells-send}
use Rattle.dash_shard.specs.contracts.shard.table.slots.cells.Cells.{the_row}

pub send : (R : RattleType) → IsSend R → IsSend (the_row R)
send = cells-send
