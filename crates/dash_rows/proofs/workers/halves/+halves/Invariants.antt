use Rattle.std.proofs.Common.{◌+◌, ◌-◌, ◌*◌}
use Rattle.dash_rows.proofs.workers.halves.+halves.Given as goal

abbrev pub decreases-both_halves : goal.decreases-both_halves
decreases-both_halves g l = 4 * (l.few + l.many) - 1

abbrev pub decreases-by_halves : goal.decreases-by_halves
decreases-by_halves g l = 4 * l.workers

abbrev pub decreases-both_halves-back : goal.decreases-both_halves-back
decreases-both_halves-back g l = 4 * l.many + 1

abbrev pub decreases-both_halves-front : goal.decreases-both_halves-front
decreases-both_halves-front g l = 4 * l.few + 1
