use Rattle.std.proofs.Common.{◌∙◌, ap, map, subst}
use Rattle.dash_shard.specs.Lock.{EndedWith}
use Rattle.dash_shard.proofs.Rows.{moved-length}
use Rattle.dash_map.specs.Alone.{AloneState, EachShard}
use Rattle.dash_map.specs.Map.{MapState, made_for, shape}
use Rattle.dash_map.proofs.Moves.{Unlocks, alone-of_map, found-of_map, ended-of_map}
use Rattle.dash_map.proofs.map.DashMap.alone.Goals as goal
use Rattle.dash_shard.specs.Hashing.{key_hash}

pub invariant_of-result : goal.invariant_of-result
invariant_of-result g c =
    alone-of_map (key_hash g.K.PartialEq.eq g.K.Hash.hash_input g.S.BuildHasher g.S.Hasher.Hasher) c.self.inside.hasher c.self.inside.row c.turn-row.result c.self.invariant c.turn-row.ensures

pub returns : goal.returns
returns g c =
    let h = key_hash g.K.PartialEq.eq g.K.Hash.hash_input g.S.BuildHasher g.S.Hasher.Hasher in
    let row = c.self.inside.row in
    let made = c.turn-row.result in
    let taken : AloneState g.row.K.Denot g.row.V.Denot g.row.S.Denot = record { hasher = c.self.inside.hasher; row = made } in
    record {
      found = record {
        hasher = ap (λ m. m.hasher) c.self.view_is;
        amount = moved-length (Unlocks h) 0 row made c.turn-row.ensures ∙ ap (λ m. m.amount) c.self.view_is;
        lawful = alone-of_map h c.self.inside.hasher row made c.self.invariant c.turn-row.ensures;
        each = found-of_map h row made c.turn-row.ensures;
      };
      ended = subst (λ (m : MapState g.row.K.Denot g.row.V.Denot g.row.S.Denot). EachShard EndedWith (made_for m) taken) c.self.view_is (ended-of_map h 0 row made c.turn-row.ensures);
    }
