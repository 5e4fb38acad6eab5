use Rattle.std.proofs.Common.{w64}
use Rattle.std.proofs.lemmas.Nat.Bits.{bit_at-trailing_zeros}
use Rattle.dash_shard.proofs.Lowest.{splits}
use Rattle.dash_shard.proofs.shard.table.marks.split_lowest_of_four.Goals as goal

pub returns : goal.returns
returns c =
    let h = bit_at-trailing_zeros w64 c.args.mask c.requires c.ranges.mask.fits in
    splits _ _ h.1 h.2 64 c.requires h.0
