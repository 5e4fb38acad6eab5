use Rattle.std.proofs.Common.{arith, refl, ap}
use Rattle.dash_shard.specs.Shard.{shard_len}
use Rattle.dashmap.proofs.memo.Memo.keep.Goals as goal

pub returns-then-len-self-clause-keeps : goal.returns-then-len-self-clause-keeps
returns-then-len-self-clause-keeps g c =
    let bound = ap (λ m. m.bound) c.self.view_is in let len = ap shard_len c.deref.ensures in (
      c.make_place.new.shard,
      c.make_place.ensures.makes,
      record {
        below = λ _. (c.insert_hashed.result, c.insert_hashed.ensures.inserts);
        full = λ full. absurd (omega (arith, full, c.if-len-self.true, bound, len, c.len.ensures.len));
      },
    )

pub returns-else-len-self-clause-keeps : goal.returns-else-len-self-clause-keeps
returns-else-len-self-clause-keeps g c =
    let bound = ap (λ m. m.bound) c.self.view_is in let len = ap shard_len c.deref.ensures in (
      c.make_place.new.shard,
      c.make_place.ensures.makes,
      record {
        below = λ below. absurd (omega (arith, below, c.if-len-self.false, bound, len, c.len.ensures.len));
        full = λ _. refl;
      },
    )
