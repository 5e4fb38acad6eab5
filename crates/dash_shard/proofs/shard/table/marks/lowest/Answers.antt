use Rattle.std.proofs.Common.{w16}
use Rattle.std.proofs.lemmas.Nat.Bits.{bit_at-trailing_zeros}
use Rattle.dash_shard.proofs.shard.table.marks.lowest.Goals as goal

pub returns : goal.returns
returns c =
    let h = bit_at-trailing_zeros w16 c.args.mask c.requires c.ranges.mask.fits in
    record { bound = h.0; set = h.1; first = h.2 }
