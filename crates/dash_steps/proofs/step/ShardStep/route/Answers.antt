use Rattle.std.proofs.Common.{ap, ◌∙◌}
use Rattle.dash_shard.specs.Contents.{keys}
use Rattle.dash_shard.specs.Hashing.{hash_of, route_of_hash}
use Rattle.dash_steps.proofs.Planning.{about-key, about-route}
use Rattle.dash_steps.proofs.step.ShardStep.route.Goals as goal

pub returns-in-Ok-clause-hash : goal.returns-in-Ok-clause-hash
unfolding hash_of
returns-in-Ok-clause-hash g c = about-key _ _ _ _ c.in-Ok.ensures c.hash_one-hash.ensures

pub returns-in-Ok-clause-shard : goal.returns-in-Ok-clause-shard
unfolding hash_of
returns-in-Ok-clause-shard g c = c.determine_shard.ensures.route ∙ ap (route_of_hash c.args.amount) c.hash_one-hash.ensures ∙ about-route (keys g.K.PartialEq.eq _ c.args.amount) _ _ c.in-Ok.ensures
