use Rattle.dash_shard.specs.Shard.{pairs}
use Rattle.dash_history.proofs.Copying.{Copied}
use Rattle.dash_history.proofs.alone.copy_contents.Given as goal

abbrev pub invariant-loop-idx : goal.invariant-loop-idx
invariant-loop-idx g l = Copied g.K.Kept.alike g.V.Kept.alike (λ s. pairs s.shard) l.row l.idx l.copies.items
