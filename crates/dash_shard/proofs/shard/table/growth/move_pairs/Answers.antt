use Rattle.std.proofs.Common.{◌≡◌, ℕ, None, length, ap, refl, sym, subst, ◌∙◌, arith}
use Rattle.dash_shard.specs.Hashing.{hash_of}
use Rattle.dash_shard.specs.Shard.{slot}
use Rattle.dash_shard.specs.inner.Table.{TellsTaken}
use Rattle.dash_shard.proofs.Carrying.{carrying-first, carrying-last, carrying-room, carrying-hash, carrying-more}
use Rattle.dash_shard.proofs.Placing.{blank-none}
use Rattle.dash_shard.proofs.Tells.{none-taken, passed-none, tells-end, tells-on}
use Rattle.dash_shard.proofs.shard.table.growth.move_pairs.Given.{Over}
use Rattle.dash_shard.proofs.shard.table.growth.move_pairs.Goals.{In_default}
use Rattle.dash_shard.proofs.shard.table.growth.move_pairs.Goals as goal

pub loop-slot-init : goal.loop-slot-init
loop-slot-init g c = record {
  carrying = carrying-first _ _ c.requires.table c.requires.empty;
  tells = subst (λ i. TellsTaken i c.args.tags.now c.args.slots.now.values) (sym c.new-cursor.ensures.first) c.requires.tells;
  cursor = c.new-cursor.ensures.cursor _ c.requires.groups;
  slots = refl;
}

pub push-requires-clause-room : goal.push-requires-clause-room
push-requires-clause-room g c =
    let at = c.loop-slot.invariant in
    let behind = passed-none _ _ _ at.tells c.in-Some.slot c.in-Some.ensures.next.3 in
    carrying-room _ _ _ at.carrying c.in-Some.slot _ _ behind c.take-key.ensures.value (rw at.slots c.requires.room)

pub loop-slot-preserved : goal.loop-slot-preserved
unfolding hash_of
loop-slot-preserved g c =
    let at = c.loop-slot.invariant in
    let next = c.in-Some.ensures.next in
    let p = c.push.ensures in
    let behind = passed-none _ _ _ at.tells c.in-Some.slot next.3 in
    let hash = c.hash_one-hash.ensures ∙ sym (carrying-hash _ _ _ at.carrying c.in-Some.slot _ _ behind c.take-key.ensures.value (λ k. hash_of g.S.BuildHasher g.S.Hasher.Hasher c.args.hasher.now (g.K.Hash.hash_input k)) c.requires.hashed) in
    record {
      carrying = carrying-more _ _ _ at.carrying c.in-Some.slot _ _ behind c.take-key.ensures.value c.take-key.new.self c.push.new.self _ c.push.result hash p.within p.free p.pairs p.hashes p.len p.table c.take-key.ensures.values;
      tells = rw (c.in-Some.ensures.position, c.take-key.ensures.values) (tells-on _ _ _ at.tells c.in-Some.slot next.0 next.3);
      cursor = c.in-Some.ensures.cursor;
      slots = p.slots ∙ at.slots;
    }

-- no pair is left
none-left : (g : Over) (c : In_default g) (i : ℕ) → slot c.loop-slot.slots.values i ≡ None
none-left g c = tells-end _ _ _ c.loop-slot.invariant.tells c.in_default.ensures.next

pub returns-clause-once : goal.returns-clause-once
returns-clause-once g c = carrying-last _ _ _ c.loop-slot.invariant.carrying (none-left g c)

pub returns-clause-len : goal.returns-clause-len
returns-clause-len g c = let none = ap length (none-taken _ (none-left g c)) in let len = c.loop-slot.invariant.carrying.len in omega (arith, none, len)

pub returns-clause-none : goal.returns-clause-none
returns-clause-none g c = blank-none _ (none-left g c)
