use Rattle.std.proofs.Common.{[], refl, ap}
use Rattle.dash_map.proofs.Folding.{going-first, going-next, going-last, keys_of}
use Rattle.dash_map.proofs.pairs.fold_keys_of.Goals as goal

pub loop-key-init : goal.loop-key-init
loop-key-init g c = going-first _ _ _ _ (λ ks to went a. c.requires ks to a went) _ (ap keys_of c.into_iter-key-iterator.ensures.into_iter_gives)

pub f-folded-requires : goal.f-folded-requires
f-folded-requires g c = c.loop-key.invariant.ready [] _ refl _

pub loop-key-preserved : goal.loop-key-preserved
loop-key-preserved g c = going-next _ _ _ _ _ (c.loop-key.f, c.loop-key.folded) c.loop-key.invariant c.in-Some.key.now _ (ap keys_of c.in-Some.ensures.steps) _ ((c.in-Some.key, tt), refl, c.f-folded.ensures)

pub returns : goal.returns
returns g c = going-last _ _ _ _ _ _ c.loop-key.invariant (ap keys_of c.in-None.ensures.steps.0)
