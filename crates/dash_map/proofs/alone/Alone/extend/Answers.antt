use Rattle.std.proofs.Common.{sym, subst}
use Rattle.dash_shard.specs.Hashing.{key_hash}
use Rattle.dash_shard.proofs.Lawful.{lawful-of}
use Rattle.dash_map.specs.Alone.{AloneState, IsAlone}
use Rattle.dash_map.specs.Extend.{InsertsEach, HasNoRoom}
use Rattle.dash_map.proofs.Extending.{gains, inserts-more, lawful-each, refused-extends}
use Rattle.dash_map.proofs.alone.Alone.extend.Given.{Over}
use Rattle.dash_map.proofs.alone.Alone.extend.Goals.{At-loop-key}
use Rattle.dash_map.proofs.alone.Alone.extend.Goals as goal

stood : (g : Over) (c : At-loop-key g) → IsAlone (key_hash g.K.PartialEq.eq g.K.Hash.hash_input g.S.BuildHasher g.S.Hasher.Hasher) c.args.self.now
stood g c = subst (λ (a : AloneState g.row.K.Denot g.row.V.Denot g.row.S.Denot). IsAlone (key_hash g.K.PartialEq.eq g.K.Hash.hash_input g.S.BuildHasher g.S.Hasher.Hasher) a) c.self.view_is c.self.invariant

pub loop-key-preserved-in_ok-insert : goal.loop-key-preserved-in_ok-insert
loop-key-preserved-in_ok-insert g c =
    inserts-more (key_hash g.K.PartialEq.eq g.K.Hash.hash_input g.S.BuildHasher g.S.Hasher.Hasher) c.args.self.now c.loop-key.yielded c.loop-key.self c.insert.new.self (c.in-Some.key, c.in-Some.value) c.in_ok-insert.field-0 c.loop-key.invariant c.in_ok-insert.ensures.taken

pub loop-key-preserved : goal.loop-key-preserved
loop-key-preserved g c =
    inserts-more (key_hash g.K.PartialEq.eq g.K.Hash.hash_input g.S.BuildHasher g.S.Hasher.Hasher) c.args.self.now c.loop-key.yielded c.loop-key.self c.insert.new.self (c.in-Some.key, c.in-Some.value) c.in_ok-insert.field-0 c.loop-key.invariant c.in_ok-insert.ensures.taken

pub returns-clause-extends : goal.returns-clause-extends
returns-clause-extends g c =
    let law = lawful-of g.S.BuildHasher g.S.Hasher.Hasher g.met.K.Eq.laws g.met.K.Hash.respects_eq in
    let it = c.into_iter-key-iterator in
    record {
      gains = (
        it.result,
        c.next.new.self,
        c.loop-key.yielded,
        it.ensures.into_iter_gives,
        (c.loop-key.key-iterator, c.loop-key.yielded_by, c.in-None.ensures.steps),
        gains (key_hash g.K.PartialEq.eq g.K.Hash.hash_input g.S.BuildHasher g.S.Hasher.Hasher) law.laws c.args.self.now c.loop-key.yielded c.loop-key.self (stood g (goal.at.returns-clause-extends g c).At-loop-key) c.loop-key.invariant,
      );
      refused = tt;
    }

pub returns-clause-lawful : goal.returns-clause-lawful
returns-clause-lawful g c = lawful-each (key_hash g.K.PartialEq.eq g.K.Hash.hash_input g.S.BuildHasher g.S.Hasher.Hasher) c.args.self.now c.loop-key.yielded c.loop-key.self (stood g (goal.at.returns-clause-lawful g c).At-loop-key) c.loop-key.invariant

pub returns-in_err-insert-clause-lawful : goal.returns-in_err-insert-clause-lawful
returns-in_err-insert-clause-lawful g c =
    subst (λ (a : AloneState g.row.K.Denot g.row.V.Denot g.row.S.Denot). IsAlone (key_hash g.K.PartialEq.eq g.K.Hash.hash_input g.S.BuildHasher g.S.Hasher.Hasher) a) (sym c.in_err-insert.ensures.refused.2)
    (lawful-each (key_hash g.K.PartialEq.eq g.K.Hash.hash_input g.S.BuildHasher g.S.Hasher.Hasher) c.args.self.now c.loop-key.yielded c.loop-key.self (stood g (goal.at.returns-in_err-insert-clause-lawful g c).At-loop-key) c.loop-key.invariant)

pub returns-in_err-insert-clause-extends : goal.returns-in_err-insert-clause-extends
returns-in_err-insert-clause-extends g c =
    let h = key_hash g.K.PartialEq.eq g.K.Hash.hash_input g.S.BuildHasher g.S.Hasher.Hasher in
    let law = lawful-of g.S.BuildHasher g.S.Hasher.Hasher g.met.K.Eq.laws g.met.K.Hash.respects_eq in
    let it = c.into_iter-key-iterator in
    let back = c.in_err-insert.ensures in
    let same = sym back.refused.2 in
    let steps = subst (λ (a : AloneState g.row.K.Denot g.row.V.Denot g.row.S.Denot). InsertsEach h c.args.self.now c.loop-key.yielded a) same c.loop-key.invariant in
    let full = subst (λ (a : AloneState g.row.K.Denot g.row.V.Denot g.row.S.Denot). HasNoRoom h c.in-Some.key a) same back.no_room in
    refused-extends h g.U.IntoIterator.into_iter_gives g.U.IntoIter.Iterator.next_gives c.args.iter c.args.self.now c.insert.new.self c.in-Some.key c.in-Some.value c.in_err-insert.field-0.0 c.from_residual.result
    (back.refused.0, back.refused.1) c.from_residual.ensures.1 (
      it.result,
      c.next.new.self,
      c.loop-key.yielded,
      it.ensures.into_iter_gives,
      (c.loop-key.key-iterator, c.loop-key.yielded_by, c.in-Some.ensures.steps),
      gains h law.laws c.args.self.now c.loop-key.yielded c.insert.new.self (stood g (goal.at.returns-in_err-insert-clause-extends g c).At-loop-key) steps,
    ) full
