use Rattle.std.proofs.Common.{Err, refl, sym, ap, subst, arith}
use Rattle.dash_shard.specs.Hashing.{key_hash}
use Rattle.dash_map.specs.Walking.{IsDone}
use Rattle.dash_map.specs.inner.Walking.{HasPassed}
use Rattle.dash_map.proofs.Stepping.{goes-on, stepped, ends, nearer, over-nearer, more, not-so}
use Rattle.dash_map.proofs.iter.locked.IterIterator.next.Goals as goal

pub returns-in-Some-clause-steps : goal.returns-in-Some-clause-steps
returns-in-Some-clause-steps g c =
    let here = c.in-Some.ensures in
    stepped (key_hash g.K.PartialEq.eq g.K.Hash.hash_input g.S.BuildHasher g.S.Hasher.Hasher) c.args.self.now c.loop-item.self c.here.new.self c.in-Some.item c.loop-item.invariant
    (λ ended. cc (here.left ended.1)) here.same here.pair here.refused

pub returns-in-Some-clause-goes : goal.returns-in-Some-clause-goes
returns-in-Some-clause-goes g c =
    record {
      on = λ _. (tt, tt, nearer (key_hash g.K.PartialEq.eq g.K.Hash.hash_input g.S.BuildHasher g.S.Hasher.Hasher) c.args.self.now c.loop-item.self c.here.new.self c.loop-item.invariant c.in-Some.ensures.nearer);
      keeps = tt;
      rests = λ _. tt;
    }

pub returns-then-is_last-clause-steps : goal.returns-then-is_last-clause-steps
returns-then-is_last-clause-steps g c =
    let done = c.in_default.ensures.done in
    let passed = subst (HasPassed (key_hash g.K.PartialEq.eq g.K.Hash.hash_input g.S.BuildHasher g.S.Hasher.Hasher) c.args.self.now) (sym done.0) c.loop-item.invariant in
    ends (key_hash g.K.PartialEq.eq g.K.Hash.hash_input g.S.BuildHasher g.S.Hasher.Hasher) c.args.self.now c.here.new.self passed c.is_last.ensures.walk
    (c.if-is_last.ensures.last.0 refl, subst IsDone (sym done.0) done.1)

pub enter-requires : goal.enter-requires
enter-requires g c = more c.here.new.self c.is_last.ensures.walk.within (not-so c.if-is_last.ensures.last)

pub returns-in-Err-clause-steps : goal.returns-in-Err-clause-steps
returns-in-Err-clause-steps g c =
    let done = c.in_default.ensures.done in
    let passed = subst (HasPassed (key_hash g.K.PartialEq.eq g.K.Hash.hash_input g.S.BuildHasher g.S.Hasher.Hasher) c.args.self.now) (sym done.0) c.loop-item.invariant in
    stepped (key_hash g.K.PartialEq.eq g.K.Hash.hash_input g.S.BuildHasher g.S.Hasher.Hasher) c.args.self.now c.here.new.self c.enter.new.self (Err c.in-Err.refused) passed
    (λ ended. not-so c.if-is_last.ensures.last ended.0) c.in-Err.ensures.same tt c.in-Err.ensures.refused

pub returns-in-Err-clause-goes : goal.returns-in-Err-clause-goes
returns-in-Err-clause-goes g c =
    let done = c.in_default.ensures.done in
    let passed = subst (HasPassed (key_hash g.K.PartialEq.eq g.K.Hash.hash_input g.S.BuildHasher g.S.Hasher.Hasher) c.args.self.now) (sym done.0) c.loop-item.invariant in
    record {
      on = λ _. (
        tt,
        tt,
        over-nearer (key_hash g.K.PartialEq.eq g.K.Hash.hash_input g.S.BuildHasher g.S.Hasher.Hasher) c.args.self.now c.here.new.self c.enter.new.self passed
            (more c.here.new.self c.is_last.ensures.walk.within (not-so c.if-is_last.ensures.last)) c.in-Err.ensures.refused c.in-Err.ensures.same,
      );
      keeps = tt;
      rests = λ _. tt;
    }

pub loop-item-smaller : goal.loop-item-smaller
loop-item-smaller g c =
    let done = c.in_default.ensures.done in
    omega (
      arith,
      c.in_default-enter.ensures.entered,
      ap (λ m. m.amount) c.in_default-enter.ensures.same,
      more c.here.new.self c.is_last.ensures.walk.within (not-so c.if-is_last.ensures.last),
      ap (λ x. x.entered) done.0,
      ap (λ x. x.base.amount) done.0,
    )

pub loop-item-preserved : goal.loop-item-preserved
loop-item-preserved g c =
    let done = c.in_default.ensures.done in
    let entered = c.in_default-enter.ensures in
    let passed = subst (HasPassed (key_hash g.K.PartialEq.eq g.K.Hash.hash_input g.S.BuildHasher g.S.Hasher.Hasher) c.args.self.now) (sym done.0) c.loop-item.invariant in
    goes-on (key_hash g.K.PartialEq.eq g.K.Hash.hash_input g.S.BuildHasher g.S.Hasher.Hasher) c.args.self.now c.here.new.self c.enter.new.self passed c.is_last.ensures.walk
    (subst IsDone (sym done.0) done.1) (more c.here.new.self c.is_last.ensures.walk.within (not-so c.if-is_last.ensures.last)) entered.same entered.entered entered.first entered.held entered.found
