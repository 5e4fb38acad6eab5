use Rattle.std.proofs.Common.{◌≡◌, List, Some, IsSome, slice_get, refl, sym, ap, subst, ◌∙◌}
use Rattle.std.proofs.lemmas.Option.{slice_get-get_or}
use Rattle.dash_shard.specs.Hashing.{key_hash}
use Rattle.dash_shard.specs.Shard.{ShardState}
use Rattle.dash_map.proofs.AloneWalks.{within-shown, pair-there, alone-valued, map-written}
use Rattle.dash_map.proofs.alone.Alone.pair_mut.Given.{Over}
use Rattle.dash_map.proofs.alone.Alone.pair_mut.Goals.{After-index_mut}
use Rattle.dash_map.proofs.alone.Alone.pair_mut.Goals as goal

here : (g : Over) (c : After-index_mut g) → slice_get c.self.inside.row c.args.shard_i ≡ Some c.index_mut.result.now
here g c = slice_get-get_or c.self.inside.row c.args.shard_i c.index_mut.result.now (within-shown c.self.inside.hasher c.self.inside.row c.args.self.now c.self.view_is c.args.shard_i c.args.slot c.requires) ∙ ap Some (sym c.index_mut.ensures.value)

there : (g : Over) (c : After-index_mut g) → slice_get c.args.self.now.row c.args.shard_i ≡ Some c.index_mut.result.now
there g c =
    let Row : Type 0 = List (ShardState g.row.K.Denot g.row.V.Denot g.row.S.Denot) in
    subst (λ (row : Row). slice_get row c.args.shard_i ≡ Some c.index_mut.result.now) (ap (λ a. a.row) c.self.view_is) (here g c)

pub index_mut-requires : goal.index_mut-requires
index_mut-requires g c = within-shown c.self.inside.hasher c.self.inside.row c.args.self.now c.self.view_is c.args.shard_i c.args.slot c.requires

pub at_mut-requires : goal.at_mut-requires
at_mut-requires g c = subst IsSome (pair-there c.args.self.now.row c.args.shard_i c.args.slot c.index_mut.result.now (there g c)) c.requires

pub invariant_of-self-lent : goal.invariant_of-self-lent
invariant_of-self-lent g c w =
    alone-valued (key_hash g.K.PartialEq.eq g.K.Hash.hash_input g.S.BuildHasher g.S.Hasher.Hasher) c.self.inside.hasher c.self.inside.row c.self.invariant c.args.shard_i c.index_mut.result.now (here g (goal.at.invariant_of-self-lent g c).After-index_mut) c.args.slot w

pub returns : goal.returns
returns g c =
    let x = (goal.at.returns g c).After-index_mut in (
      (refl, λ w. map-written c.self.inside.hasher c.self.inside.row c.args.shard_i c.args.slot c.index_mut.result.now w (here g x) c.args.self.now c.self.view_is),
      record { writes_back = tt; pair = pair-there c.args.self.now.row c.args.shard_i c.args.slot c.index_mut.result.now (there g x) ∙ c.at_mut.ensures.pair },
    )
