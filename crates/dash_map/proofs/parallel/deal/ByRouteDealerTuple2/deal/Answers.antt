use Rattle.std.proofs.Common.{◌≡◌, ap, subst, ◌∙◌}
use Rattle.dash_shard.specs.Hashing.{hash_of, key_hash, route_by, route_of_hash}
use Rattle.dash_map.specs.Map.{MapShape}
use Rattle.dash_map.proofs.parallel.deal.ByRouteDealerTuple2.deal.Goals as goal

pub returns-clause-mark : goal.returns-clause-mark
unfolding hash_of
returns-clause-mark g c =
    let h = key_hash g.K.PartialEq.eq g.K.Hash.hash_input g.S.BuildHasher g.S.Hasher.Hasher in
    subst (λ (m : MapShape g.row.S.Denot). c.hash_one-hash.result ≡ h.hash m.hasher c.args.pair.now.0) c.self.view_is c.hash_one-hash.ensures

pub returns-clause-part : goal.returns-clause-part
unfolding hash_of
returns-clause-part g c =
    let h = key_hash g.K.PartialEq.eq g.K.Hash.hash_input g.S.BuildHasher g.S.Hasher.Hasher in
    subst (λ (m : MapShape g.row.S.Denot). c.determine_shard.result ≡ route_by h m.hasher m.amount c.args.pair.now.0) c.self.view_is
    (c.determine_shard.ensures.route ∙ ap (route_of_hash c.self.inside.amount) c.hash_one-hash.ensures)
