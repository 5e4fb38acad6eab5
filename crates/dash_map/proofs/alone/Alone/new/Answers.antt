use Rattle.dash_shard.specs.Shard.{IsTagged, ShardState}
use Rattle.std.proofs.Common.{rules, ◌≤◌, ◌/◌, subst, sym, List, Some, slice_get, ◌≡◌}
use Rattle.dash_shard.specs.Hashing.{IsAmount}
use Rattle.dash_shard.specs.Hashing.{key_hash}
use Rattle.dash_map.specs.Alone.{IsAlone}
use Rattle.dash_map.proofs.alone.Alone.new.Goals as goal

pub invariant_of-result : goal.invariant_of-result
invariant_of-result g c =
    let lawful : IsAmount c.args.amount = c.is_shard_amount.ensures.0 c.if-not-is_shard_amount.false in
    let made = c.in_ok-row.ensures in
    let row_is = c.in-Ok.ensures in
    subst (λ (row : List (ShardState g.row.K.Denot g.row.V.Denot g.row.S.Denot)). IsAlone (key_hash g.K.PartialEq.eq g.K.Hash.hash_input g.S.BuildHasher g.S.Hasher.Hasher) (record { hasher = c.args.hasher; row = row })) (sym row_is) (record {
      amount = subst IsAmount (sym made.len) lawful;
      tagged = λ i s e. subst (λ n. IsTagged (key_hash g.K.PartialEq.eq g.K.Hash.hash_input g.S.BuildHasher g.S.Hasher.Hasher) c.args.hasher n i s) (sym made.len) (made.tagged i s e);
    })

pub returns-clause-fresh : goal.returns-clause-fresh
returns-clause-fresh g c = λ i s e.
    let made = c.in_ok-row.ensures.fresh i s (subst (λ (row : List (ShardState g.row.K.Denot g.row.V.Denot g.row.S.Denot)). slice_get row i ≡ Some s) c.in-Ok.ensures e) in
    (made.0, subst (λ r. r / c.args.amount ≤ s.capacity) (search rules) made.1)

pub returns-clause-bad_amount : goal.returns-clause-bad_amount
returns-clause-bad_amount g c = (λ e. absurd (cc), λ bad. absurd (bad (c.is_shard_amount.ensures.0 c.if-not-is_shard_amount.false)))
