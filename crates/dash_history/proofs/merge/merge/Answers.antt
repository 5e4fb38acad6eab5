use Rattle.std.proofs.Common.{map, subst, IsPermutation}
use Rattle.dash_history.proofs.Merging.{merged, rises-each}
use Rattle.dash_steps.specs.Takes.{known_by}
use Rattle.dash_history.proofs.merge.merge.Goals as goal

pub returns : goal.returns
returns g c =
    merged (map (λ s. s.history) c.args.row.now) c.sort.new.self.items
    (rises-each (known_by g.K.PartialEq.eq g.K.Hash.hash_input g.K.Kept.alike g.V.Kept.alike g.A.Kept.alike g.A.Action.acts g.S.BuildHasher g.S.Hasher.Hasher) c.args.row.now c.requires)
    (subst (λ l. IsPermutation l c.sort.new.self.items) c.in_ok-ats.ensures c.in_ok-sort.ensures.permutation)
    c.in_ok-sort.ensures.sorted
