use Rattle.std.proofs.Common.{◌<◌, length, sym, subst, arith}
use Rattle.std.proofs.lemmas.Bool.{true≢false}
use Rattle.dash_shard.specs.Hashing.{key_hash}
use Rattle.dash_shard.specs.Steps.{line, line_shard}
use Rattle.dash_shard.proofs.Routing.{route_below}
use Rattle.dash_steps.specs.Steps.{step_of}
use Rattle.dash_steps.proofs.Planning.{about-route}
use Rattle.dash_map.specs.Alone.{AloneState, IsAlone, keys_in}
use Rattle.dash_map.proofs.alone.Alone.misses.Goals as goal

pub returns-in-Ok : goal.returns-in-Ok
returns-in-Ok g c =
    let h = key_hash g.K.PartialEq.eq g.K.Hash.hash_input g.S.BuildHasher g.S.Hasher.Hasher in
    let a = c.args.self.now in
    let lawful = subst (λ (x : AloneState g.row.K.Denot g.row.V.Denot g.row.S.Denot). IsAlone h x) c.self.view_is c.self.invariant in
    let l = line (step_of g.A.Action.acts c.args.step.now) in
    let below : line_shard (keys_in h a) l < length a.row = subst (λ n. n < length a.row) (about-route (keys_in h a) l c.in-Ok.field-0 c.in-Ok.ensures) (route_below _ _ (omega (arith, lawful.amount.several))) in
    (λ f. absurd (true≢false (sym f)), λ le. absurd (omega (arith, le, below)))
