use Rattle.std.proofs.Common.{◌∙◌, ap, subst}
use Rattle.dash_shard.specs.Lock.{EndedWith}
use Rattle.dash_shard.proofs.Rows.{moved-length}
use Rattle.dash_history.specs.Alone.{RecAloneState, EachRecShard}
use Rattle.dash_history.specs.Map.{RecMapState, made_for}
use Rattle.dash_history.proofs.Maps.{Unlocks, alone-of_map, found-of_map, ended-of_map}
use Rattle.dash_steps.specs.Takes.{known_by}
use Rattle.dash_history.proofs.record.map.RecordedMap.alone.Goals as goal

pub invariant_of-result : goal.invariant_of-result
invariant_of-result g c =
    alone-of_map (known_by g.K.PartialEq.eq g.K.Hash.hash_input g.K.Kept.alike g.V.Kept.alike g.A.Kept.alike g.A.Action.acts g.S.BuildHasher g.S.Hasher.Hasher) c.self.inside.hasher c.self.inside.callers c.self.inside.row c.turn-row.result c.self.invariant c.turn-row.ensures

pub returns : goal.returns
returns g c =
    let w = known_by g.K.PartialEq.eq g.K.Hash.hash_input g.K.Kept.alike g.V.Kept.alike g.A.Kept.alike g.A.Action.acts g.S.BuildHasher g.S.Hasher.Hasher in
    let row = c.self.inside.row in
    let shards = c.turn-row.result in
    let taken : RecAloneState g.row.K.Denot g.row.V.Denot g.row.A.Denot g.row.S.Denot = record { hasher = c.self.inside.hasher; callers = c.self.inside.callers; row = shards } in
    record {
      found = record {
        hasher = ap (λ m. m.hasher) c.self.view_is;
        callers = ap (λ m. m.callers) c.self.view_is;
        amount = moved-length (Unlocks w) 0 row shards c.turn-row.ensures ∙ ap (λ m. m.amount) c.self.view_is;
        lawful = alone-of_map w c.self.inside.hasher c.self.inside.callers row shards c.self.invariant c.turn-row.ensures;
        each = found-of_map w row shards c.turn-row.ensures;
      };
      ended = subst (λ (m : RecMapState g.row.K.Denot g.row.V.Denot g.row.A.Denot g.row.S.Denot). EachRecShard EndedWith (made_for m) taken) c.self.view_is (ended-of_map w 0 row shards c.turn-row.ensures);
    }
