use Rattle.std.proofs.Common.{rules}
use Rattle.dash_map.proofs.map.DashMap.par_extend_gated.Goals as goal

-- one by one, since one search for all gives up
pub replace_with-requires : goal.replace_with-requires
replace_with-requires g c = (search rules, search rules, search rules, search rules, search rules, search rules)
