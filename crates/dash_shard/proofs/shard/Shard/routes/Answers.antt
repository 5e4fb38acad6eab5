use Rattle.std.proofs.Common.{◌≡◌, subst, sym, ap, ◌∙◌, eq-eqb, eqb-true, IsTrue, eqb, ◌↔◌}
use Rattle.dash_shard.specs.Shard.{ShardState}
use Rattle.dash_shard.specs.Hashing.{hash_of, route_of_hash}
use Rattle.dash_shard.proofs.shard.Shard.routes.Goals as goal

pub returns : goal.returns
returns g c =
    let number = ap (λ (s : ShardState g.row.K.Denot g.row.V.Denot g.row.S.Denot). s.number) c.self.view_is in
    let same = c.determine_shard.ensures.route ∙ ap (route_of_hash c.self.inside.amount) c.hash_one.ensures ∙ ap (λ (s : ShardState g.row.K.Denot g.row.V.Denot g.row.S.Denot). route_of_hash s.amount (hash_of g.S.BuildHasher g.S.Hasher.Hasher c.args.self.now.hasher (g.Q.Hash.hash_input c.args.key))) c.self.view_is in
    (λ t. sym same ∙ eqb-true _ _ t ∙ number, λ e. eq-eqb _ _ (same ∙ e ∙ sym number))
