use Rattle.std.proofs.Common.{ap, sym, ◌∙◌}
use Rattle.dash_shard.specs.Search.{groups}
use Rattle.dash_shard.proofs.Positions.{groups-of}
use Rattle.dash_shard.proofs.Lawful.{lawful-of}
use Rattle.dash_shard.proofs.shard.Shard.groups.Goals as goal

pub returns : goal.returns
returns g c = c.groups.ensures ∙ sym (groups-of _ c.self.inside.hasher c.self.inside.number c.self.inside.amount (lawful-of g.S.BuildHasher g.S.Hasher.Hasher g.met.K.Eq.laws g.met.K.Hash.respects_eq) c.self.inside.table c.self.invariant.table) ∙ ap groups c.self.view_is
