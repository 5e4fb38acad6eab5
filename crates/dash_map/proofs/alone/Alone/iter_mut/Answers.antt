use Rattle.dash_map.proofs.AloneWalks.{starts-from, leaves-each}
use Rattle.dash_map.proofs.alone.Alone.iter_mut.Goals as goal

pub returns-clause-to_come : goal.returns-clause-to_come
returns-clause-to_come g c = starts-from c.args.self.now.row

pub returns-clause-each : goal.returns-clause-each
returns-clause-each g c = leaves-each (record { map = c.args.self; shard_i = 0; position = 0 })
