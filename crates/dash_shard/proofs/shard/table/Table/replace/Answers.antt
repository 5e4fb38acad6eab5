use Rattle.std.proofs.Common.{refl}
use Rattle.dash_shard.proofs.Written.{table-rewritten}
use Rattle.dash_shard.proofs.shard.table.Table.replace.Goals as goal

pub returns-clause-table : goal.returns-clause-table
returns-clause-table g c = table-rewritten c.args.self.now _ c.args.position _ _ c.requires.table c.get_mut-pair.ensures.value refl refl refl refl refl
