use Rattle.std.proofs.Common.{Ok, refl, sym, subst, arith}
use Rattle.std.proofs.lemmas.Bool.{true≢false}
use Rattle.dash_shard.specs.Hashing.{key_hash}
use Rattle.dash_map.specs.Walking.{IsDone}
use Rattle.dash_map.specs.WalkingMut.{LeavesHeld}
use Rattle.dash_map.specs.inner.Walking.{HasPassed}
use Rattle.dash_map.proofs.Stepping.{goes-on, stepped, ends, nearer, more, not-so}
use Rattle.dash_map.proofs.SteppingMut.{leaves-on}
use Rattle.dash_map.proofs.iter.locked_mut.HeldIter.advance.Goals as goal

pub returns-then-is_last-clause-end : goal.returns-then-is_last-clause-end
returns-then-is_last-clause-end g c =
    let h = key_hash g.K.PartialEq.eq g.K.Hash.hash_input g.S.BuildHasher g.S.Hasher.Hasher in
    let done = c.loop-self-test.ensures.goes in
    let passed = subst (HasPassed h c.args.self.now) (sym done.0) c.loop-self.invariant.passed in
    record {
      steps = ends h {E = Unit {0}} c.args.self.now c.goes_here.new.self passed c.is_last.ensures.walk (c.if-is_last.ensures.last.0 refl, subst IsDone (sym done.0) done.1);
      left = subst (LeavesHeld c.args.self.now) (sym done.0) c.loop-self.invariant.left;
    }

pub loop-self-preserved : goal.loop-self-preserved
loop-self-preserved g c =
    let h = key_hash g.K.PartialEq.eq g.K.Hash.hash_input g.S.BuildHasher g.S.Hasher.Hasher in
    let done = c.loop-self-test.ensures.goes in
    let w = c.goes_here.new.self in
    let passed = subst (HasPassed h c.args.self.now) (sym done.0) c.loop-self.invariant.passed in
    record {
      passed = goes-on h c.args.self.now w c.enter.new.self passed c.is_last.ensures.walk (subst IsDone (sym done.0) done.1) (more w c.is_last.ensures.walk.within (not-so c.if-is_last.ensures.last))
          c.enter.ensures.same c.enter.ensures.entered c.enter.ensures.first c.enter.ensures.held c.enter.ensures.found;
      left = leaves-on h c.args.self.now w c.enter.new.self passed (subst (LeavesHeld c.args.self.now) (sym done.0) c.loop-self.invariant.left) c.enter.ensures.left;
    }

pub returns-clause-steps : goal.returns-clause-steps
returns-clause-steps g c =
    let h = key_hash g.K.PartialEq.eq g.K.Hash.hash_input g.S.BuildHasher g.S.Hasher.Hasher in
    let here = c.loop-self-test.ensures in
    let old = c.args.self.now in
    let new = c.goes_here.new.self in (
      here.goes.0,
      record {
        steps = stepped h {E = Unit {0}} old c.loop-self.self new (Ok here.goes.0) c.loop-self.invariant.passed (λ ended. true≢false (here.left ended.1)) here.same here.goes.1 tt;
        nearer = nearer h old c.loop-self.self new c.loop-self.invariant.passed here.nearer;
        left = λ on. c.loop-self.invariant.left (omega (arith, on, here.goes.1.entered));
      },
    )
