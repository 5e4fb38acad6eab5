use Rattle.std.proofs.Common.{refl}
use Rattle.dash_shard.specs.inner.Marks.{count_of}
use Rattle.dash_shard.proofs.shard.table.marks.count_at.Goals as goal

pub returns : goal.returns
unfolding count_of
returns c = refl
