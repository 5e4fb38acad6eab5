use Rattle.std.proofs.Common.{◌≡◌, ◌∙◌, sym, subst, ap, length, map as list_map}
use Rattle.dash_shard.proofs.Rows.{moved-length}
use Rattle.dash_history.specs.Held.{IsRecTagged}
use Rattle.dash_history.specs.Map.{locked, rec_map}
use Rattle.dash_history.specs.inner.Locks.{made_of}
use Rattle.dash_history.proofs.Maps.{map-of_alone, left-of_alone, made-of_alone}
use Rattle.dash_shard.specs.Hashing.{key_hash}
use Rattle.dash_steps.specs.Takes.{known_by}
use Rattle.dash_history.proofs.alone.RecAlone.end.Goals as goal

pub turn-row-requires : goal.turn-row-requires
turn-row-requires g c = λ i x e. subst (λ n. IsRecTagged (key_hash g.K.PartialEq.eq g.K.Hash.hash_input g.S.BuildHasher g.S.Hasher.Hasher) c.self.inside.hasher n c.self.inside.callers i x) (sym c.len-amount.ensures) (c.self.invariant.tagged i x e)

pub invariant_of-result : goal.invariant_of-result
invariant_of-result g c =
    map-of_alone (known_by g.K.PartialEq.eq g.K.Hash.hash_input g.K.Kept.alike g.V.Kept.alike g.A.Kept.alike g.A.Action.acts g.S.BuildHasher g.S.Hasher.Hasher) c.self.inside.hasher c.self.inside.callers c.len-amount.result c.self.inside.row c.turn-row.result c.len-amount.ensures c.self.invariant c.turn-row.ensures

pub returns : goal.returns
returns g c =
    let w = known_by g.K.PartialEq.eq g.K.Hash.hash_input g.K.Kept.alike g.V.Kept.alike g.A.Kept.alike g.A.Action.acts g.S.BuildHasher g.S.Hasher.Hasher in
    let long : length c.turn-row.result ≡ length c.self.inside.row = moved-length _ 0 c.self.inside.row c.turn-row.result c.turn-row.ensures in
    let made = made-of_alone w (rec_map c.self.inside.hasher c.self.inside.callers c.len-amount.result) 0 c.self.inside.row c.turn-row.result c.turn-row.ensures in
    record {
      map = ap (λ n. record { hasher = c.self.inside.hasher; callers = c.self.inside.callers; amount = n; made = list_map made_of c.turn-row.result }) long ∙ ap (λ r. record { hasher = c.self.inside.hasher; callers = c.self.inside.callers; amount = length c.self.inside.row; made = r }) made ∙ ap (λ a. locked a (length a.row)) c.self.view_is;
      left = left-of_alone w (rec_map c.self.inside.hasher c.self.inside.callers c.len-amount.result) _ _ c.self.view_is c.turn-row.result c.turn-row.ensures;
    }
