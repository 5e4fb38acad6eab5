use Rattle.std.proofs.Common.{◌+◌, ap, length, ◌∙◌, arith}
use Rattle.std.proofs.lemmas.List.{length_push}
use Rattle.dash_shard.specs.Lock.{FoundBehind}
use Rattle.dash_steps.specs.Takes.{known_by}
use Rattle.dash_history.proofs.SharedSteps.{in-place-none, in-place-more, all-behind}
use Rattle.dash_history.proofs.record.map.RecordedMap.hold_all.Goals as goal

pub loop-idx-init : goal.loop-idx-init
loop-idx-init g c = record {
  count = ap length c.in_ok-holds.ensures.items;
  room = omega (arith, c.in_ok-holds.ensures);
  each = rw c.in_ok-holds.ensures.items (in-place-none (known_by g.K.PartialEq.eq g.K.Hash.hash_input g.K.Kept.alike g.V.Kept.alike g.A.Kept.alike g.A.Action.acts g.S.BuildHasher g.S.Hasher.Hasher) c.args.self.now FoundBehind);
}

pub loop-idx-preserved : goal.loop-idx-preserved
loop-idx-preserved g c =
    let before = c.loop-idx.invariant in
    record {
      count = ap length c.push_reserved.ensures.items ∙ length_push c.loop-idx.holds.items c.held.result ∙ ap (λ n. n + 1) before.count;
      room = omega (arith, c.push_reserved.ensures.capacity, before.room);
      each = rw c.push_reserved.ensures.items (in-place-more (known_by g.K.PartialEq.eq g.K.Hash.hash_input g.K.Kept.alike g.V.Kept.alike g.A.Kept.alike g.A.Action.acts g.S.BuildHasher g.S.Hasher.Hasher) c.args.self.now FoundBehind c.loop-idx.idx c.loop-idx.holds.items c.held.result before.count before.each c.held.ensures.tagged c.held.ensures.legal c.held.ensures.found);
    }

pub returns : goal.returns
returns g c = all-behind (known_by g.K.PartialEq.eq g.K.Hash.hash_input g.K.Kept.alike g.V.Kept.alike g.A.Kept.alike g.A.Action.acts g.S.BuildHasher g.S.Hasher.Hasher) c.args.self.now FoundBehind FoundBehind c.loop-idx.holds.items c.shard_count-amount.ensures.lawful c.callers.ensures.lawful (omega (arith, c.loop-idx.invariant.count, c.loop-idx-test.false, c.shard_count-amount.ensures.count)) c.loop-idx.invariant.each (λ s found. found)
