use Rattle.std.proofs.Common.{◌≡◌, ◌≤◌, ◌∙◌, sym, subst, arith, Some, slice_get, List, ℕ, length}
use Rattle.dash_shard.specs.Hashing.{HashAlike}
use Rattle.dash_shard.specs.Hashing.{key_hash}
use Rattle.dash_shard.specs.Shard.{ShardState, shard_len, IsTagged}
use Rattle.dash_shard.proofs.Rows.{each-more}
use Rattle.dash_map.proofs.alone.fresh_row.Goals as goal

pub loop-number-preserved : goal.loop-number-preserved
loop-number-preserved g c =
    let At : Type 0 = ShardState g.row.K.Denot g.row.V.Denot g.row.S.Denot in
    let Made = λ (i : ℕ) (s : At). IsTagged (key_hash g.K.PartialEq.eq g.K.Hash.hash_input g.S.BuildHasher g.S.Hasher.Hasher) c.args.hasher.now c.args.amount i s × (shard_len s ≡ 0) × (c.args.capacity ≤ s.capacity) in
    let new = c.in_ok-new.ensures in
    let meaning = λ (s : g.row.S.Denot). HashAlike (key_hash g.K.PartialEq.eq g.K.Hash.hash_input g.S.BuildHasher g.S.Hasher.Hasher) c.args.hasher.now s in
    let tagged : IsTagged (key_hash g.K.PartialEq.eq g.K.Hash.hash_input g.S.BuildHasher g.S.Hasher.Hasher) c.args.hasher.now c.args.amount (length c.loop-number.row.items) c.in_ok-new.field-0 = record {
      number = new.number ∙ sym c.loop-number.invariant.len;
      amount = new.amount;
      hashes = subst meaning (sym new.hasher) (c.requires.alike _ _ c.in-Ok-clone.ensures.cases);
      shard = new.lawful;
    } in
    record {
      len = omega (arith, c.push_reserved.ensures.len, c.loop-number.invariant.len, c.push_reserved.new.self.ok.0, c.loop-number.row.ok.0);
      room = omega (arith, c.loop-number.invariant.room, c.push_reserved.ensures.capacity);
      made = subst (λ (xs : List At). (i : ℕ) (s : At) → slice_get xs i ≡ Some s → Made i s) (sym c.push_reserved.ensures.items)
          (each-more Made c.loop-number.row.items c.in_ok-new.field-0 c.loop-number.invariant.made (tagged, new.empty, new.capacity));
    }

pub returns-clause-tagged : goal.returns-clause-tagged
returns-clause-tagged g c = λ i s e. (c.loop-number.invariant.made i s e).0

pub returns-clause-fresh : goal.returns-clause-fresh
returns-clause-fresh g c = λ i s e. let made = c.loop-number.invariant.made i s e in (made.1, made.2)
