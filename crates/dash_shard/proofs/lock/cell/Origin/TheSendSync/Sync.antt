use denote.RattleType.{RattleType}
use denote.Param.Send.{IsSync, part_keyless}
use Rattle.dash_shard.specs.contracts.lock.cell.Origin.{the_row}
use Rattle.dash_shard.proofs.lock.cell.Origin.TheSendSync.Send.{send}

pub sync : (T : RattleType) → IsSync (the_row T)
sync T = record { shared = λ d b o κ q. part_keyless (the_row T) (send T) q d b o }
