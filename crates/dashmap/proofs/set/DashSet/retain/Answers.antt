use Rattle.std.proofs.Common.{rules}
use Rattle.dashmap.specs.Set.{CalledAtKey, TakesKey}
use Rattle.dashmap.proofs.Members.{callable-inside, retains-inside}
use Rattle.dashmap.proofs.set.DashSet.retain.Goals as goal

pub retain-requires : goal.retain-requires
retain-requires g c = λ ps.
    callable-inside (λ x. x.0.now) _ (CalledAtKey g.F.FnMut) (λ x k v b w y called. search rules) _ (TakesKey g.F.FnMut) (λ x k v takes. search rules) _ ps (c.requires ps)

pub returns : goal.returns
returns g c =
    let left = c.retain.ensures in
    rw (← c.self.view_is) (left.0, left.1, (left.2.0, left.2.1, retains-inside (λ x. x.0.now) _ (CalledAtKey g.F.FnMut) (λ x k v b w y called. search rules) g.K.PartialEq.eq _ _ _ left.2.2))
