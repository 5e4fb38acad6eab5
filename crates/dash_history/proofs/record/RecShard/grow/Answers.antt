use Rattle.std.proofs.Common.{List, ◌≡◌, ◌<◌, ◌++◌, ◌∷◌, [], ap, subst, sym, ◌∙◌, refl}
use Rattle.dash_history.specs.History.{IsRecorded, RecState}
use Rattle.dash_steps.specs.Takes.{shard_of, known_by}
use Rattle.dash_history.specs.inner.Tells.{Tells}
use Rattle.dash_history.specs.declared.record.Record.{Record}
use Rattle.dash_steps.specs.inner.Kinds.{kinds_of}
use Rattle.dash_history.proofs.Recording.{taken, recorded}
use Rattle.dash_history.proofs.Telling.{told}
use Rattle.dash_history.proofs.record.RecShard.grow.Given.{Over}
use Rattle.dash_history.proofs.record.RecShard.grow.Goals.{After-push_reserved}
use Rattle.dash_history.proofs.record.RecShard.grow.Goals as goal
use Rattle.dash_shard.proofs.Lawful.{lawful-of}

pub invariant_of-self : goal.invariant_of-self
invariant_of-self g c = rw c.make_room.ensures.items c.self.invariant

pub returns-then-not-make_room-clause-legal : goal.returns-then-not-make_room-clause-legal
returns-then-not-make_room-clause-legal g c = rw c.make_room.ensures.items c.self.invariant

pub returns-then-not-make_room-clause-refused : goal.returns-then-not-make_room-clause-refused
returns-then-not-make_room-clause-refused g c = rw c.make_room.ensures.items (refl, c.self.view_is)

pub invariant_of-self-in_default : goal.invariant_of-self-in_default
invariant_of-self-in_default g c = rw c.make_room.ensures.items c.self.invariant

pub returns-in_default-clause-legal : goal.returns-in_default-clause-legal
returns-in_default-clause-legal g c = rw c.make_room.ensures.items c.self.invariant

pub returns-in_default-clause-refused : goal.returns-in_default-clause-refused
returns-in_default-clause-refused g c = rw c.make_room.ensures.items (refl, c.self.view_is)

pub invariant_of-self-in_default-copies : goal.invariant_of-self-in_default-copies
invariant_of-self-in_default-copies g c = rw c.make_room.ensures.items c.self.invariant

pub returns-in_default-copies-clause-legal : goal.returns-in_default-copies-clause-legal
returns-in_default-copies-clause-legal g c = rw c.make_room.ensures.items c.self.invariant

pub returns-in_default-copies-clause-refused : goal.returns-in_default-copies-clause-refused
returns-in_default-copies-clause-refused g c = rw c.make_room.ensures.items (refl, c.self.view_is)

pub invariant_of-self-in-Err : goal.invariant_of-self-in-Err
invariant_of-self-in-Err g c = rw (c.make_room.ensures.items, c.in-Err.ensures.err.1) c.self.invariant

pub returns-in-Err-clause-legal : goal.returns-in-Err-clause-legal
returns-in-Err-clause-legal g c = rw (c.make_room.ensures.items, c.in-Err.ensures.err.1) c.self.invariant

pub returns-in-Err-clause-refused : goal.returns-in-Err-clause-refused
returns-in-Err-clause-refused g c = rw (c.make_room.ensures.items, c.in-Err.ensures.err.1) (c.in-Err.ensures.err.0, c.self.view_is)

pub carry_out-requires-clause-goes : goal.carry_out-requires-clause-goes
carry_out-requires-clause-goes g c =
    let At : Type 0 = RecState g.row.K.Denot g.row.V.Denot g.row.A.Denot g.row.S.Denot in
    let P = λ (x : At). shard_of (kinds_of (known_by g.K.PartialEq.eq g.K.Hash.hash_input g.K.Kept.alike g.V.Kept.alike g.A.Kept.alike g.A.Action.acts g.S.BuildHasher g.S.Hasher.Hasher) x.shard) c.args.step ≡ x.shard.number in
    subst P (sym c.self.view_is) c.requires.goes

pub carry_out-requires-clause-decides : goal.carry_out-requires-clause-decides
carry_out-requires-clause-decides g c = c.in-Ok.ensures.decides

pub push_reserved-requires : goal.push_reserved-requires
push_reserved-requires g c = c.make_room.ensures.room c.if-not-make_room.false

-- the shard that grew has a legal history
grown-legal : (g : Over) (c : After-push_reserved g) → IsRecorded (known_by g.K.PartialEq.eq g.K.Hash.hash_input g.K.Kept.alike g.V.Kept.alike g.A.Kept.alike g.A.Action.acts g.S.BuildHasher g.S.Hasher.Hasher)
    (record { shard = c.carry_out.new.shard; callers = c.self.inside.callers; last = c.args.stamp; history = c.push_reserved.new.self.items })
grown-legal g c =
    let At : Type 0 = RecState g.row.K.Denot g.row.V.Denot g.row.A.Denot g.row.S.Denot in
    let s : At = record { shard = c.self.inside.shard; callers = c.self.inside.callers; last = c.self.inside.last; history = c.self.inside.history.items } in
    let P = λ (x : At). shard_of (kinds_of (known_by g.K.PartialEq.eq g.K.Hash.hash_input g.K.Kept.alike g.V.Kept.alike g.A.Kept.alike g.A.Action.acts g.S.BuildHasher g.S.Hasher.Hasher) x.shard) c.args.step ≡ x.shard.number in
    let here = subst P (sym c.self.view_is) c.requires.goes in
    let below = subst (λ (x : At). c.args.caller < x.callers) (sym c.self.view_is) c.requires.caller in
    let above = subst (λ (x : At). x.last < c.args.stamp) (sym c.self.view_is) c.requires.above in
    let new = c.in-Ok-carry_out.ensures.lawful c.self.invariant.shard in
    let tells = subst (λ n. Tells g.K.Kept.alike g.V.Kept.alike g.A.Kept.alike c.args.stamp c.args.caller n c.args.step c.in-Ok.reply c.in-Ok-copies.first) c.number-number.ensures.number c.in-Ok-copies.ensures.first in
    let takes = taken _ (lawful-of g.S.BuildHasher g.S.Hasher.Hasher g.met.K.Eq.laws g.met.K.Hash.respects_eq) _ _ g.met.K.Kept.alike_laws g.met.V.Kept.alike_laws g.met.K.KeptKey.alike_equal _ _ g.met.A.KeptAction.alike_acts
    c.self.inside.shard c.carry_out.new.shard c.args.step c.in-Ok.reply c.self.invariant.shard here c.in-Ok.ensures.answers c.in-Ok-carry_out.ensures.ok c.in-Ok-carry_out.ensures.stays new in
    recorded _ (lawful-of g.S.BuildHasher g.S.Hasher.Hasher g.met.K.Eq.laws g.met.K.Hash.respects_eq) _ _ g.met.K.Kept.alike_laws g.met.V.Kept.alike_laws g.met.K.KeptKey.alike_equal _ _ g.met.A.KeptAction.alike_acts
    s c.carry_out.new.shard c.args.step c.in-Ok.reply c.args.stamp c.args.caller c.in-Ok-copies.first c.push_reserved.new.self.items
    c.self.invariant c.in-Ok-carry_out.ensures.stays new takes here below above tells
    (c.push_reserved.ensures.items ∙ ap (λ h. h ++ c.in-Ok-copies.first ∷ []) c.make_room.ensures.items)

pub invariant_of-self-in-Ok-carry_out : goal.invariant_of-self-in-Ok-carry_out
invariant_of-self-in-Ok-carry_out g c = grown-legal g (goal.at.invariant_of-self-in-Ok-carry_out g c).After-push_reserved

pub returns-in-Ok-carry_out-clause-legal : goal.returns-in-Ok-carry_out-clause-legal
returns-in-Ok-carry_out-clause-legal g c = grown-legal g (goal.at.returns-in-Ok-carry_out-clause-legal g c).After-push_reserved

pub returns-in-Ok-carry_out-clause-ok : goal.returns-in-Ok-carry_out-clause-ok
returns-in-Ok-carry_out-clause-ok g c =
    let At : Type 0 = RecState g.row.K.Denot g.row.V.Denot g.row.A.Denot g.row.S.Denot in
    let P = λ (x : At). shard_of (kinds_of (known_by g.K.PartialEq.eq g.K.Hash.hash_input g.K.Kept.alike g.V.Kept.alike g.A.Kept.alike g.A.Action.acts g.S.BuildHasher g.S.Hasher.Hasher) x.shard) c.args.step ≡ x.shard.number in
    let here = subst P (sym c.self.view_is) c.requires.goes in
    let tells = subst (λ n. Tells g.K.Kept.alike g.V.Kept.alike g.A.Kept.alike c.args.stamp c.args.caller n c.args.step c.in-Ok.reply c.in-Ok-copies.first) c.number-number.ensures.number c.in-Ok-copies.ensures.first in
    let with_history : List (Record g.row.K.Denot g.row.V.Denot g.row.A.Denot) → At = λ h. record { shard = c.carry_out.new.shard; callers = c.self.inside.callers; last = c.args.stamp; history = h } in
    rw (← c.self.view_is) (record {
      takes = taken _ (lawful-of g.S.BuildHasher g.S.Hasher.Hasher g.met.K.Eq.laws g.met.K.Hash.respects_eq) _ _ g.met.K.Kept.alike_laws g.met.V.Kept.alike_laws g.met.K.KeptKey.alike_equal _ _ g.met.A.KeptAction.alike_acts
          c.self.inside.shard c.carry_out.new.shard c.args.step c.in-Ok.reply c.self.invariant.shard here c.in-Ok.ensures.answers c.in-Ok-carry_out.ensures.ok c.in-Ok-carry_out.ensures.stays (c.in-Ok-carry_out.ensures.lawful c.self.invariant.shard);
      kept = c.in-Ok-copies.first;
      tells = told _ _ _ _ _ _ tells;
      same = c.in-Ok-copies.ensures.second;
      grown = ap with_history (c.push_reserved.ensures.items ∙ ap (λ h. h ++ c.in-Ok-copies.first ∷ []) c.make_room.ensures.items);
      stays = c.in-Ok-carry_out.ensures.stays;
    })
