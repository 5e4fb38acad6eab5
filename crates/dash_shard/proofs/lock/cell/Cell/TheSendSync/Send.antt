use denote.RattleType.{RattleType}
use denote.Param.Send.{IsSend}
use Rattle.dash_shard.specs.declared.lock.tagged.Tagged.{Ghosts}
use Rattle.dash_shard.specs.contracts.lock.cell.Cell.{the_row}

pub send : (T G : RattleType) (g : Ghosts T.Denot G.Denot) → IsSend T → IsSend (the_row T G g)
send T G g s = record { owned = λ d vs. ((λ _. tt), λ z. ((λ vss. (tt, ((tt, tt), (s.owned z.1 vss.1.0, tt)))), λ _. tt)); leaving = λ k d w. tt }
