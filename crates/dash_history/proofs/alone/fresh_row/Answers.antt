use Rattle.std.proofs.Common.{◌≡◌, ◌∙◌, sym, subst, arith, Some, slice_get, List, ℕ, length}
use Rattle.dash_shard.specs.Hashing.{HashAlike}
use Rattle.dash_shard.specs.Hashing.{key_hash}
use Rattle.dash_history.specs.History.{RecState, IsRecorded, IsFresh}
use Rattle.dash_steps.specs.Takes.{known_by}
use Rattle.dash_history.specs.Held.{IsRecTagged}
use Rattle.dash_shard.proofs.Rows.{each-more}
use Rattle.dash_history.proofs.alone.fresh_row.Goals as goal

pub loop-number-preserved : goal.loop-number-preserved
loop-number-preserved g c =
    let At : Type 0 = RecState g.row.K.Denot g.row.V.Denot g.row.A.Denot g.row.S.Denot in
    let Made = λ (i : ℕ) (s : At). IsRecTagged (key_hash g.K.PartialEq.eq g.K.Hash.hash_input g.S.BuildHasher g.S.Hasher.Hasher) c.args.hasher.now c.args.amount c.args.callers i s × IsFresh s × IsRecorded (known_by g.K.PartialEq.eq g.K.Hash.hash_input g.K.Kept.alike g.V.Kept.alike g.A.Kept.alike g.A.Action.acts g.S.BuildHasher g.S.Hasher.Hasher) s in
    let new = c.in_ok-new.ensures in
    let meaning = λ (s : g.row.S.Denot). HashAlike (key_hash g.K.PartialEq.eq g.K.Hash.hash_input g.S.BuildHasher g.S.Hasher.Hasher) c.args.hasher.now s in
    let tagged : IsRecTagged (key_hash g.K.PartialEq.eq g.K.Hash.hash_input g.S.BuildHasher g.S.Hasher.Hasher) c.args.hasher.now c.args.amount c.args.callers (length c.loop-number.row.items) c.in_ok-new.field-0 = record {
      number = new.number ∙ sym c.loop-number.invariant.len;
      amount = new.amount;
      callers = new.callers;
      hashes = subst meaning (sym new.hasher) (c.requires.alike _ _ c.in_ok-clone.ensures.cases);
    } in
    record {
      len = omega (arith, c.in_ok-push.ensures.len, c.loop-number.invariant.len, c.push.new.self.ok.0, c.loop-number.row.ok.0);
      made = subst (λ (xs : List At). (i : ℕ) (s : At) → slice_get xs i ≡ Some s → Made i s) (sym c.in_ok-push.ensures.items)
          (each-more Made c.loop-number.row.items c.in_ok-new.field-0 c.loop-number.invariant.made (tagged, new.fresh, new.legal));
    }
