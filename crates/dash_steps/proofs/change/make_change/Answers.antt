use Rattle.dash_shard.specs.Hashing.{key_hash}
use Rattle.dash_shard.proofs.Lawful.{lawful-of}
use Rattle.dash_steps.proofs.Finding.{unmade, same-room}
use Rattle.dash_steps.proofs.change.make_change.Goals as goal

pub returns-in_default-clause-becomes : goal.returns-in_default-clause-becomes
returns-in_default-clause-becomes g c = rw c.in_default.is (unmade (key_hash g.K.PartialEq.eq g.K.Hash.hash_input g.S.BuildHasher g.S.Hasher.Hasher) c.args.shard.now (lawful-of g.S.BuildHasher g.S.Hasher.Hasher g.met.K.Eq.laws g.met.K.Hash.respects_eq) c.args.change)

pub returns-in-Goes-clause-room : goal.returns-in-Goes-clause-room
returns-in-Goes-clause-room g c = same-room g.K.PartialEq.eq g.met.K.Eq.laws c.args.shard.now c.remove_at.new.self _ _ _ _ c.remove_at.ensures.pair c.remove_at.ensures.removes
