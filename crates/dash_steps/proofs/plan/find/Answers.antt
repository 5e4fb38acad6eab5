use Rattle.std.proofs.Common.{◌≡◌, ℕ, Option, None, subst}
use Rattle.dash_shard.specs.Hashing.{key_hash}
use Rattle.dash_shard.specs.Held.{Finds}
use Rattle.dash_shard.specs.Steps.{line}
use Rattle.dash_shard.proofs.Lawful.{lawful-of}
use Rattle.dash_shard.proofs.Naming.{hash-equals}
use Rattle.dash_steps.specs.Steps.{step_of}
use Rattle.dash_steps.specs.inner.Hashed.{OfKey}
use Rattle.dash_steps.proofs.Finding.{about-found, about-hash}
use Rattle.dash_steps.proofs.plan.find.Goals as goal

pub position_of_hashed-requires : goal.position_of_hashed-requires
position_of_hashed-requires g c =
    let h = key_hash g.K.PartialEq.eq g.K.Hash.hash_input g.S.BuildHasher g.S.Hasher.Hasher in
    hash-equals h (lawful-of g.S.BuildHasher g.S.Hasher.Hasher g.met.K.Eq.laws g.met.K.Hash.respects_eq) c.args.shard.now.hasher c.in-Ok.key.now c.args.hash
    (about-hash (h.hash c.args.shard.now.hasher) (line (step_of g.A.Action.acts c.args.step.now)) c.args.hash c.in-Ok.key c.requires c.in-Ok.ensures)

pub returns-clause-found : goal.returns-clause-found
returns-clause-found g c =
    let l = line (step_of g.A.Action.acts c.args.step.now) in
    let s = c.args.shard.now in
    let found = c.position_of_hashed.result in
    subst (λ (o : Option ℕ). OfKey l (λ k. Finds g.K.PartialEq.eq s k o) (o ≡ None)) c.ok_or.ensures.ok_part
    (about-found (λ k. Finds g.K.PartialEq.eq s k found) (found ≡ None) l c.in-Ok.key c.in-Ok.ensures c.position_of_hashed.ensures.finds)
