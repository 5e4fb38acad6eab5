use Rattle.std.proofs.Common.{rules}
use Rattle.dashmap.specs.Set.{CalledAtKey, TakesKey}
use Rattle.dashmap.proofs.Members.{callable-inside, retains-inside}
use Rattle.dashmap.proofs.set.alone.AloneSet.retain.Goals as goal

pub retain-requires : goal.retain-requires
retain-requires g c =
    callable-inside (λ x. x.0.now) _ (CalledAtKey g.F.FnMut) (λ x k v b w y called. search rules) _ (TakesKey g.F.FnMut) (λ x k v takes. search rules) _ _ (rw c.self.view_is c.requires)

pub returns-clause-retains : goal.returns-clause-retains
returns-clause-retains g c = rw (← c.self.view_is) (retains-inside (λ x. x.0.now) _ (CalledAtKey g.F.FnMut) (λ x k v b w y called. search rules) g.K.PartialEq.eq _ _ _ c.retain.ensures.retains)
