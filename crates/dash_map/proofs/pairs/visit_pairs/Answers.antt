use Rattle.std.proofs.Common.{[], refl}
use Rattle.dash_map.proofs.Folding.{going-first, going-next, going-last}
use Rattle.dash_map.proofs.pairs.visit_pairs.Goals as goal

pub loop-key-init : goal.loop-key-init
loop-key-init g c = going-first _ _ _ _ (λ ps to went a. c.requires ps to a went) _ c.into_iter-key-iterator.ensures.into_iter_gives

pub f-requires : goal.f-requires
f-requires g c = c.loop-key.invariant.ready [] _ refl _

pub loop-key-preserved : goal.loop-key-preserved
loop-key-preserved g c = going-next _ _ _ _ _ c.loop-key.f c.loop-key.invariant (c.in-Some.key.now, c.in-Some.value.now) _ c.in-Some.ensures.steps _ ((c.in-Some.key, (c.in-Some.value, tt)), (refl, refl), c.f.ensures)

pub returns : goal.returns
returns g c = going-last _ _ _ _ _ _ c.loop-key.invariant c.in-None.ensures.steps.0
