use Rattle.std.proofs.Common.{◌↔◌, nat_eq, drop}
use Rattle.dash_shard.specs.Contents.{EachOnce}
use Rattle.dash_script.proofs.threads.replay.has_just.Given as goal

abbrev pub invariant-loop-pair : goal.invariant-loop-pair
invariant-loop-pair l = EachOnce nat_eq l.fn.plain.entries l.pairs ↔ EachOnce nat_eq l.plain.entries (drop l.pair-index l.pairs)
