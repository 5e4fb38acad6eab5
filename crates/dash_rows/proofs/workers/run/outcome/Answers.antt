use Rattle.std.proofs.Common.{sym}
use Rattle.dash_rows.proofs.workers.run.outcome.Goals as goal

pub returns-then-lane-clause-short : goal.returns-then-lane-clause-short
returns-then-lane-clause-short g c = (c.loop-lane.lane-index, c.lane-item.result, c.loop-lane-test.true, sym c.lane-item.is, c.if-lane.true)
