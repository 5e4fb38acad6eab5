use Rattle.dash_shard.specs.Shard.{IsTagged}
use Rattle.std.proofs.Common.{◌≡◌, ◌∙◌, sym, subst, ap, length, map as list_map}
use Rattle.dash_shard.proofs.Rows.{moved-length}
use Rattle.dash_map.specs.Alone.{AloneState, IsAlone}
use Rattle.dash_map.specs.Locks.{made_of}
use Rattle.dash_map.specs.Map.{locked}
use Rattle.dash_map.proofs.Moves.{map-of_alone, left-of_alone, made-of_alone}
use Rattle.dash_map.proofs.alone.Alone.end.Goals as goal
use Rattle.dash_shard.specs.Hashing.{key_hash}

pub turn-row-requires : goal.turn-row-requires
turn-row-requires g c = λ i x e. subst (λ n. IsTagged (key_hash g.K.PartialEq.eq g.K.Hash.hash_input g.S.BuildHasher g.S.Hasher.Hasher) c.self.inside.hasher n i x) (sym c.len-amount.ensures) (c.self.invariant.tagged i x e)

pub invariant_of-result : goal.invariant_of-result
invariant_of-result g c =
    map-of_alone (key_hash g.K.PartialEq.eq g.K.Hash.hash_input g.S.BuildHasher g.S.Hasher.Hasher) c.self.inside.hasher c.len-amount.result c.self.inside.row c.turn-row.result c.len-amount.ensures c.self.invariant c.turn-row.ensures

pub returns : goal.returns
returns g c =
    let h = key_hash g.K.PartialEq.eq g.K.Hash.hash_input g.S.BuildHasher g.S.Hasher.Hasher in
    let long : length c.turn-row.result ≡ length c.self.inside.row = moved-length _ 0 c.self.inside.row c.turn-row.result c.turn-row.ensures in
    let back = made-of_alone h (record { hasher = c.self.inside.hasher; amount = c.len-amount.result }) 0 c.self.inside.row c.turn-row.result c.turn-row.ensures in
    let map = ap (λ n. record { hasher = c.self.inside.hasher; amount = n; made = list_map made_of c.turn-row.result }) long ∙ ap (λ r. record { hasher = c.self.inside.hasher; amount = length c.self.inside.row; made = r }) back ∙ ap locked c.self.view_is in
    record {
      map = map;
      left = record {
        hasher = sym (ap (λ m. m.hasher) map);
        amount = sym (ap (λ m. m.amount) map);
        lawful = subst (λ (a : AloneState g.row.K.Denot g.row.V.Denot g.row.S.Denot). IsAlone h a) c.self.view_is c.self.invariant;
        each = left-of_alone h (record { hasher = c.self.inside.hasher; amount = c.len-amount.result }) _ _ c.self.view_is c.turn-row.result c.turn-row.ensures;
      };
    }
