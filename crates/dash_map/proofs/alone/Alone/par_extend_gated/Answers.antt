use Rattle.std.proofs.Common.{◌≡◌, length, ap, ◌∙◌}
use Rattle.dash_shard.specs.Hashing.{key_hash}
use Rattle.dash_shard.proofs.Lawful.{lawful-of}
use Rattle.dash_map.proofs.ParExtending.{deals-below, deals-fit, back-lawful, par-extends}
use Rattle.dash_map.proofs.alone.Alone.par_extend_gated.Given.{Over}
use Rattle.dash_map.proofs.alone.Alone.par_extend_gated.Goals.{After-items_mut}
use Rattle.dash_map.proofs.alone.Alone.par_extend_gated.Goals as goal

dealer : (g : Over) (c : After-items_mut g) → c.new-dealer.result ≡ record { hasher = c.self.inside.hasher; amount = length c.self.inside.row }
dealer g c = c.new-dealer.ensures ∙ ap (λ n. record { hasher = c.self.inside.hasher; amount = n }) c.len.ensures

pub put_apart-requires-clause-within : goal.put_apart-requires-clause-within
put_apart-requires-clause-within g c κs within =
    deals-below (key_hash g.K.PartialEq.eq g.K.Hash.hash_input g.S.BuildHasher g.S.Hasher.Hasher) c.self.inside.hasher c.self.inside.row c.self.invariant c.new-dealer.result (dealer g c) c.items_mut.result.now c.items_mut.ensures.value c.args.list.items

pub put_apart-requires-clause-fits : goal.put_apart-requires-clause-fits
put_apart-requires-clause-fits g c κs within =
    deals-fit (key_hash g.K.PartialEq.eq g.K.Hash.hash_input g.S.BuildHasher g.S.Hasher.Hasher) c.self.inside.hasher c.self.inside.row c.self.invariant c.new-dealer.result (dealer g c) c.items_mut.result.now c.items_mut.ensures.value

pub invariant_of-self : goal.invariant_of-self
invariant_of-self g c =
    back-lawful (key_hash g.K.PartialEq.eq g.K.Hash.hash_input g.S.BuildHasher g.S.Hasher.Hasher) c.self.inside.hasher c.self.inside.row c.self.invariant c.new-dealer.result (dealer g (goal.at.invariant_of-self g c).After-items_mut) c.items_mut.result.now c.items_mut.ensures.value
    c.args.list.items c.put_apart.new.parts c.put_apart.ensures.len c.put_apart.ensures.each

pub returns : goal.returns
returns g c =
    let eq = g.met.K.Eq g.world.𝓛 g.world.𝓜 g.world.𝓡 ((λ s x. x), (λ x. x), (λ x. x), λ x. x) in
    let hash = g.met.K.Hash g.world.𝓛 g.world.𝓜 g.world.𝓡 ((λ s x. x), (λ x. x), (λ x. x), λ x. x) in
    par-extends (key_hash g.K.PartialEq.eq g.K.Hash.hash_input g.S.BuildHasher g.S.Hasher.Hasher) c.self.inside.hasher c.self.inside.row c.self.invariant c.new-dealer.result (dealer g (goal.at.returns g c).After-items_mut) c.items_mut.result.now c.items_mut.ensures.value
    c.args.list.items c.put_apart.new.parts c.put_apart.ensures.len c.put_apart.ensures.each (lawful-of g.S.BuildHasher g.S.Hasher.Hasher eq.laws hash.respects_eq) c.args.self.now c.self.view_is c.put_apart.result c.put_apart.ensures.whole c.put_apart.ensures.short
