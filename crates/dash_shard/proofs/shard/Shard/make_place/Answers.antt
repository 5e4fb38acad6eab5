use Rattle.std.proofs.Common.{Ok, arith}
use Rattle.dash_shard.proofs.Shrinking.{moved-inside, reserved}
use Rattle.dash_shard.proofs.Lawful.{lawful-of}
use Rattle.dash_shard.proofs.shard.Shard.make_place.Goals as goal

pub invariant_of-self-2 : goal.invariant_of-self-2
invariant_of-self-2 g c = moved-inside _ (lawful-of g.S.BuildHasher g.S.Hasher.Hasher g.met.K.Eq.laws g.met.K.Hash.respects_eq) _ _ _ c.self.inside.table c.grow.new.self c.self.invariant c.in-Ok.ensures.moved

pub returns-clause-reserves : goal.returns-clause-reserves
returns-clause-reserves g c =
    reserved _ (lawful-of g.S.BuildHasher g.S.Hasher.Hasher g.met.K.Eq.laws g.met.K.Hash.respects_eq) _ _ _ c.self.inside.table c.grow.new.self c.self.invariant _ c.self.view_is 1 (Ok _) c.in-Ok.ensures.moved (let more = c.in-Ok.ensures.ok in omega (arith, more))
    (λ room. absurd (omega (arith, room, c.if-len-capacity.false, c.len.ensures, c.capacity.ensures))) tt

pub returns-clause-lawful : goal.returns-clause-lawful
returns-clause-lawful g c = (moved-inside _ (lawful-of g.S.BuildHasher g.S.Hasher.Hasher g.met.K.Eq.laws g.met.K.Hash.respects_eq) _ _ _ c.self.inside.table c.grow.new.self c.self.invariant c.in-Ok.ensures.moved).shard

pub returns-clause-full : goal.returns-clause-full
returns-clause-full g c = let fits = c.self.invariant.table.fits in omega (arith, fits, c.self.invariant.counted, c.if-len-capacity.false, c.len.ensures, c.capacity.ensures)
