use Rattle.std.proofs.Common.{rules, take_all}
use Rattle.std.proofs.lemmas.List.Sums.{fold_more}
use Rattle.dash_shard.specs.Hashing.{fnv_step}
use Rattle.dash_shard.proofs.hash.FixedHasherHasher.write.Goals as goal

pub loop-byte-preserved : goal.loop-byte-preserved
unfolding fnv_step
loop-byte-preserved c = search (rules, fold_more)

pub returns : goal.returns
returns c = search (rules, take_all)
