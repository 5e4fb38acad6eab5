-- A caller of a recorded map.
use Rattle.dash_history.specs.Map.{RecMapState}
use Rattle.dash_history.specs.History.{LogState}

-- its map and its log
pub record RecCallerState (K V A S : Type 0) : Type 0 where
  pub map : RecMapState K V A S
  pub log : LogState K V A
