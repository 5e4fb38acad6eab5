use Rattle.std.proofs.Common.{sym, ◌∙◌}
use Rattle.dash_shard.specs.Hashing.{hash_of}
use Rattle.dash_shard.proofs.shard.table.Table.hash_at.Goals as goal

pub returns : goal.returns
unfolding hash_of
returns g c = c.hash_one.ensures ∙ sym (c.requires.hashed c.args.position _ (sym c.at.ensures))
