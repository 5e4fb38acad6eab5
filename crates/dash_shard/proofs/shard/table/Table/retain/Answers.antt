use Rattle.std.proofs.Common.{◌∙◌}
use Rattle.std.specs.Map.Calls.{CalledAtPair}
use Rattle.dash_shard.specs.Hashing.{hash_of}
use Rattle.dash_shard.specs.inner.Table.{pairs_in, hashes_in}
use Rattle.dash_shard.proofs.Shards.{hashed-clear}
use Rattle.dash_shard.proofs.Sweeping.{walked-ready, walked-next, walked-all, fewer-left, asked-yes, asked-no, asked-hashed, asked-cleared}
use Rattle.dash_shard.proofs.Written.{spot-within}
use Rattle.dash_shard.proofs.shard.table.Table.retain.Goals as goal

pub ask_at-requires-clause-callable : goal.ask_at-requires-clause-callable
ask_at-requires-clause-callable g c = walked-ready _ _ _ _ _ _ _ _ _ c.loop-slot.invariant.walked c.in-Some.slot c.in-Some.ensures

pub hash_at-hash-requires-clause-hashed : goal.hash_at-hash-requires-clause-hashed
hash_at-hash-requires-clause-hashed g c =
    let a = c.ask_at.ensures in
    let within = spot-within (pairs_in c.loop-slot.self) c.in-Some.slot c.in-Some.ensures.next.1 in
    rw a.hashes (asked-hashed (CalledAtPair g.F.FnMut) _ _ _ _ _ _ a.asks a.pairs (λ k. hash_of g.S.BuildHasher g.S.Hasher.Hasher c.args.hasher.now (g.K.Hash.hash_input k)) _ within c.loop-slot.invariant.hashed)

pub loop-slot-preserved-then-not-ask_at : goal.loop-slot-preserved-then-not-ask_at
loop-slot-preserved-then-not-ask_at g c =
    let at = c.loop-slot.invariant in
    let a = c.ask_at.ensures in
    let r = c.take.ensures in
    let within = spot-within (pairs_in c.loop-slot.self) c.in-Some.slot c.in-Some.ensures.next.1 in
    let hash = λ (k : g.row.K.Denot). hash_of g.S.BuildHasher g.S.Hasher.Hasher c.args.hasher.now (g.K.Hash.hash_input k) in
    let gone = asked-cleared (CalledAtPair g.F.FnMut) _ _ _ _ _ _ a.asks a.pairs _ r.pairs in
    record {
      walked = walked-next _ _ _ _ _ _ _ _ _ at.walked c.in-Some.slot c.in-Some.ensures _ _ _ (asked-no (CalledAtPair g.F.FnMut) _ _ _ _ _ _ a.asks a.pairs c.if-not-ask_at.true) gone;
      hashes = r.hashes ∙ a.hashes ∙ at.hashes;
      hashed = rw (gone, r.hashes, a.hashes) (hashed-clear hash (pairs_in c.loop-slot.self) (hashes_in c.loop-slot.self) c.in-Some.slot within at.hashed);
      slots = r.slots ∙ a.slots ∙ at.slots;
      table = r.table;
    }

pub loop-slot-preserved : goal.loop-slot-preserved
loop-slot-preserved g c =
    let at = c.loop-slot.invariant in
    let a = c.ask_at.ensures in
    let within = spot-within (pairs_in c.loop-slot.self) c.in-Some.slot c.in-Some.ensures.next.1 in
    let hash = λ (k : g.row.K.Denot). hash_of g.S.BuildHasher g.S.Hasher.Hasher c.args.hasher.now (g.K.Hash.hash_input k) in
    record {
      walked = walked-next _ _ _ _ _ _ _ _ _ at.walked c.in-Some.slot c.in-Some.ensures _ _ _ (asked-yes (CalledAtPair g.F.FnMut) _ _ _ _ _ _ a.asks a.pairs c.if-not-ask_at.false) a.pairs;
      hashes = a.hashes ∙ at.hashes;
      hashed = rw a.hashes (asked-hashed (CalledAtPair g.F.FnMut) _ _ _ _ _ _ a.asks a.pairs hash _ within at.hashed);
      slots = a.slots ∙ at.slots;
      table = a.table;
    }

pub returns-clause-swept : goal.returns-clause-swept
returns-clause-swept g c = walked-all _ _ _ _ _ _ _ _ _ c.loop-slot.invariant.walked c.in_default.ensures

pub loop-slot-smaller-then-not-ask_at : goal.loop-slot-smaller-then-not-ask_at
loop-slot-smaller-then-not-ask_at g c = fewer-left _ _ _ _ _ c.in-Some.ensures (c.take.ensures.slots ∙ c.ask_at.ensures.slots)

pub loop-slot-smaller : goal.loop-slot-smaller
loop-slot-smaller g c = fewer-left _ _ _ _ _ c.in-Some.ensures c.ask_at.ensures.slots
