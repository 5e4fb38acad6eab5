use Rattle.std.proofs.Common.{inl}
use Rattle.dashmap.proofs.memo.let_one_go.Goals as goal

pub returns-in-Some-clause-goes : goal.returns-in-Some-clause-goes
returns-in-Some-clause-goes g c = inl (record {
  position = c.in-Some.position;
  pair = c.remove_at.result;
  stood = c.remove_at.ensures.pair;
  removes = c.remove_at.ensures.removes;
  len = c.remove_at.ensures.len;
})
