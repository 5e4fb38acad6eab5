use Rattle.std.proofs.Common.{rules}
use Rattle.dash_steps.specs.Takes as takes
use Rattle.dash_shard.specs.inner.Keys.{keys_of}
use Rattle.dash_shard.specs.Hashing.{key_hash}
use Rattle.dash_steps.proofs.Copies.{lawful-by}
use Rattle.dash_steps.proofs.Sweeping.{swept}
use Rattle.dash_shard.proofs.Lawful.{lawful-of}
use Rattle.dash_steps.proofs.sweep.put_each.Goals as goal

pub returns-clause-leaves : goal.returns-clause-leaves
returns-clause-leaves g c f gives =
    let s = c.args.shard.now in
    let laws = lawful-by _ (lawful-of g.S.BuildHasher g.S.Hasher.Hasher g.met.K.Eq.laws g.met.K.Hash.respects_eq) _ _ g.met.K.Kept.alike_laws g.met.V.Kept.alike_laws g.met.K.KeptKey.alike_equal s.hasher s.amount in
    let m = takes.rules g.K.Kept.alike g.V.Kept.alike (keys_of (key_hash g.K.PartialEq.eq g.K.Hash.hash_input g.S.BuildHasher g.S.Hasher.Hasher) s) in
    swept m _ _ s c.retain.new.self c.retain.ensures.retains (λ x. x.0.now.items) laws f _ c.from-made.ensures.0 (rw c.in-Each.is at gives) (λ x k v b w y called. search rules)
