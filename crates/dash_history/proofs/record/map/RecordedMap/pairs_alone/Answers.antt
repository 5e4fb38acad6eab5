use Rattle.dash_steps.specs.Takes.{known_by}
use Rattle.dash_history.proofs.Maps.{locked-again, same-shape}
use Rattle.dash_history.proofs.record.map.RecordedMap.pairs_alone.Goals as goal

pub returns-clause-pairs : goal.returns-clause-pairs
returns-clause-pairs g c = locked-again (known_by g.K.PartialEq.eq g.K.Hash.hash_input g.K.Kept.alike g.V.Kept.alike g.A.Kept.alike g.A.Action.acts g.S.BuildHasher g.S.Hasher.Hasher) _ _ _ c.alone-alone.ensures.found c.alone-alone.ensures.ended c.end.ensures.map _ c.pairs-pairs.ensures

pub returns-clause-same : goal.returns-clause-same
returns-clause-same g c = same-shape (known_by g.K.PartialEq.eq g.K.Hash.hash_input g.K.Kept.alike g.V.Kept.alike g.A.Kept.alike g.A.Action.acts g.S.BuildHasher g.S.Hasher.Hasher) _ _ _ c.alone-alone.ensures.found c.end.ensures.map
