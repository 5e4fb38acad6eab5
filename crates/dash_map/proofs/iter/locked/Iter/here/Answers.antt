use Rattle.std.proofs.Common.{Some, refl, sym, ap, ◌∙◌}
use Rattle.std.specs.Option.{option_map}
use Rattle.dash_shard.specs.Hashing.{key_hash}
use Rattle.dash_map.proofs.Stepping.{gives-here, cursor-held}
use Rattle.dash_map.proofs.iter.locked.Iter.here.Goals as goal

pub returns-in-Ok-clause-pair : goal.returns-in-Ok-clause-pair
returns-in-Ok-clause-pair g c =
    let lent = c.deref.ensures.0 ∙ ap (λ rc. rc.value) c.as_ref-2.ensures in
    rw (← c.self.view_is) (gives-here (key_hash g.K.PartialEq.eq g.K.Hash.hash_input g.S.BuildHasher g.S.Hasher.Hasher) _ _ c.new.result c.deref.result.now c.in_ok-position.position c.self.invariant.0
    (sym (ap (option_map (λ rc. rc.value.value)) c.in_ok-guard.ensures.value) ∙ ap Some (sym lent)) refl refl c.in_ok-position.ensures.advances.next c.in_ok-position.ensures.advances.position
    (c.new.ensures.shard ∙ ap (λ rc. rc.value) c.in-Ok.ensures.cases ∙ sym lent) c.new.ensures.position c.new.ensures.stands)

pub invariant_of-self-in-Ok : goal.invariant_of-self-in-Ok
invariant_of-self-in-Ok g c =
    let walk = c.self.invariant.0 in
    let lent = c.deref.ensures.0 ∙ ap (λ rc. rc.value) c.as_ref-2.ensures in
    (record { within = walk.within; held = walk.held }, cursor-held (λ rc. rc.value.value) _ _ _ _ c.in_ok-guard.ensures.value lent c.in_ok-position.ensures.advances.cursor)
