use Rattle.std.proofs.Common.{◌≡◌, ◌≤◌, List, [], ◌∷◌, ◌++◌, map, refl, sym, ap, subst, ◌∙◌, arith}
use Rattle.std.specs.Prelude.{reverse, ◌↔◌}
use Rattle.std.proofs.lemmas.List.{reverse-reverse}
use Rattle.dash_steps.specs.declared.step.ShardStep.{ShardStep}
use Rattle.dash_steps.specs.Steps.{step_of, reply_of}
use Rattle.dash_steps.specs.Takes.{Rules, Takes, Runs}
use Rattle.dash_map.specs.Alone.{AloneState, IsAlone, contents}
use Rattle.dash_map.specs.Run.{IsRefused}
use Rattle.dash_map.specs.inner.Run.{rules_in, answered}
use Rattle.dash_map.specs.declared.run.Fault.TheVariants.{NoSuchShard}
use Rattle.dash_shard.specs.inner.Steps.{step_shard}
use Rattle.dash_map.proofs.Rooms.{keeps-same, keeps-then}
use Rattle.dash_map.proofs.Running.{running-none, running-more, refused-first, rules-same}
use Rattle.dash_map.proofs.Walks.{walks-in}
use Rattle.dash_map.proofs.alone.Alone.run.Goals as goal
use Rattle.dash_shard.proofs.Lawful.{lawful-of}
use Rattle.dash_shard.specs.Hashing.{key_hash}

pub returns-in_default-clause-ran : goal.returns-in_default-clause-ran
returns-in_default-clause-ran g c =
    let m = rules_in (key_hash g.K.PartialEq.eq g.K.Hash.hash_input g.S.BuildHasher g.S.Hasher.Hasher) g.K.Kept.alike g.V.Kept.alike c.args.self.now in
    record {
      front = [];
      in_order = refl;
      answers = c.new.ensures.items;
      taken = refl;
      stops = subst (λ l. IsRefused m g.A.Action.acts l c.first_fault-fault.result) c.deref.ensures.value c.first_fault-fault.ensures;
    }

pub loop-step-init : goal.loop-step-init
loop-step-init g c =
    let m = rules_in (key_hash g.K.PartialEq.eq g.K.Hash.hash_input g.S.BuildHasher g.S.Hasher.Hasher) g.K.Kept.alike g.V.Kept.alike c.args.self.now in
    record {
      so_far = running-none m g.A.Action.acts (contents c.args.self.now) c.args.steps.items c.reverse.new.self.items c.in-Ok.replies.items (sym (ap reverse c.reverse.ensures.items ∙ reverse-reverse c.args.steps.items)) c.in-Ok.ensures.items;
      stays = keeps-same c.args.self.now c.args.self.now refl;
      lawful = subst (λ (a : AloneState g.row.K.Denot g.row.V.Denot g.row.S.Denot). IsAlone (key_hash g.K.PartialEq.eq g.K.Hash.hash_input g.S.BuildHasher g.S.Hasher.Hasher) a) c.self.view_is c.self.invariant;
      room = omega (arith, c.in-Ok.ensures.len, c.in-Ok.ensures.capacity, c.reverse.ensures.len, c.len.ensures);
    }

pub loop-step-preserved : goal.loop-step-preserved
loop-step-preserved g c =
    let m = rules_in (key_hash g.K.PartialEq.eq g.K.Hash.hash_input g.S.BuildHasher g.S.Hasher.Hasher) g.K.Kept.alike g.V.Kept.alike c.args.self.now in
    let took = c.in-Ok-take.ensures in
    let known = rules-same (key_hash g.K.PartialEq.eq g.K.Hash.hash_input g.S.BuildHasher g.S.Hasher.Hasher) g.K.Kept.alike g.V.Kept.alike c.args.self.now c.loop-step.self c.loop-step.invariant.stays.hasher c.loop-step.invariant.stays.amount in
    record {
      so_far = rw c.push_reserved.ensures.items (running-more m g.A.Action.acts _ _ _ _ _ _ _ c.in-Some.step c.in-Ok-take.reply c.loop-step.invariant.so_far c.in-Some.ensures.items (subst (λ (r : Rules g.row.K.Denot g.row.V.Denot). Takes r (contents c.loop-step.self) (step_of g.A.Action.acts c.in-Some.step) (reply_of c.in-Ok-take.reply) (contents c.take.new.self)) known took.taken));
      stays = keeps-then c.args.self.now c.loop-step.self c.take.new.self c.loop-step.invariant.stays took.stays;
      lawful = took.lawful;
      room = omega (arith, c.loop-step.invariant.room, c.push_reserved.ensures.len, c.push_reserved.ensures.capacity, c.in-Some.ensures.cases);
    }

pub returns-in-Err-clause-ran : goal.returns-in-Err-clause-ran
returns-in-Err-clause-ran g c =
    let m = rules_in (key_hash g.K.PartialEq.eq g.K.Hash.hash_input g.S.BuildHasher g.S.Hasher.Hasher) g.K.Kept.alike g.V.Kept.alike c.args.self.now in
    let known = rules-same (key_hash g.K.PartialEq.eq g.K.Hash.hash_input g.S.BuildHasher g.S.Hasher.Hasher) g.K.Kept.alike g.V.Kept.alike c.args.self.now c.loop-step.self c.loop-step.invariant.stays.hasher c.loop-step.invariant.stays.amount in
    let refused = c.in-Err.ensures.refused in
    let rest = c.reverse-in-Err.new.self.items in
    let put : rest ≡ reverse (c.pop.new.self.items ++ c.in-Some.step ∷ []) = c.reverse-in-Err.ensures.items ∙ ap reverse c.push_reserved-in-Err.ensures.items
    ∙ ap (λ (s : ShardStep g.row.K.Denot g.row.V.Denot g.row.A.Denot). reverse (c.pop.new.self.items ++ s ∷ [])) refused.0 in
    record {
      front = c.loop-step.invariant.so_far.front;
      in_order = c.loop-step.invariant.so_far.in_order ∙ ap (λ (l : List (ShardStep g.row.K.Denot g.row.V.Denot g.row.A.Denot)). map (λ d. d.0) c.loop-step.invariant.so_far.front ++ l) (ap reverse c.in-Some.ensures.items ∙ sym put);
      answers = c.loop-step.invariant.so_far.answers;
      taken = subst (λ (a : AloneState g.row.K.Denot g.row.V.Denot g.row.S.Denot). Runs m (contents c.args.self.now) (map (answered g.A.Action.acts) c.loop-step.invariant.so_far.front) (contents a)) (sym refused.1) c.loop-step.invariant.so_far.taken;
      stops = refused-first m g.A.Action.acts c.pop.new.self.items rest c.in-Some.step c.in-Err.fault put (subst (λ (r : Rules g.row.K.Denot g.row.V.Denot). (c.in-Err.fault ≡ NoSuchShard) ↔ (r.keys.shards ≤ step_shard r.keys (step_of g.A.Action.acts c.in-Some.step))) known c.in-Err.ensures.fault);
    }

pub returns-in_default-clause-walks : goal.returns-in_default-clause-walks
returns-in_default-clause-walks g c =
    walks-in _ _ _ (lawful-of g.S.BuildHasher g.S.Hasher.Hasher g.met.K.Eq.laws g.met.K.Hash.respects_eq) g.met.K.Kept.alike_laws g.met.V.Kept.alike_laws g.met.K.KeptKey.alike_equal _ _ c.self.view_is c.self.invariant

pub returns-in-Err-clause-walks : goal.returns-in-Err-clause-walks
returns-in-Err-clause-walks g c =
    walks-in _ _ _ (lawful-of g.S.BuildHasher g.S.Hasher.Hasher g.met.K.Eq.laws g.met.K.Hash.respects_eq) g.met.K.Kept.alike_laws g.met.V.Kept.alike_laws g.met.K.KeptKey.alike_equal _ _ c.self.view_is c.self.invariant

pub returns-clause-walks : goal.returns-clause-walks
returns-clause-walks g c =
    walks-in _ _ _ (lawful-of g.S.BuildHasher g.S.Hasher.Hasher g.met.K.Eq.laws g.met.K.Hash.respects_eq) g.met.K.Kept.alike_laws g.met.V.Kept.alike_laws g.met.K.KeptKey.alike_equal _ _ c.self.view_is c.self.invariant
