use Rattle.std.proofs.Common.{◌∙◌, refl, ap, sym, get_or}
use Rattle.dash_shard.specs.Shard.{ShardState}
use Rattle.dash_shard.specs.Hashing.{key_hash}
use Rattle.dash_shard.proofs.Lawful.{lawful-of}
use Rattle.dash_map.proofs.Spots.{Spot, spot-of, spot-hashed, named-stands}
use Rattle.dash_map.proofs.shards.Shards.get_hashed.Given.{Over}
use Rattle.dash_map.proofs.shards.Shards.get_hashed.Goals as goal

abbrev Shown : Over → Type 0
Shown g = ShardState g.row.K.Denot g.row.V.Denot g.row.S.Denot

pub position_of_hashed-requires : goal.position_of_hashed-requires
position_of_hashed-requires g c =
    let x : Spot (key_hash g.K.PartialEq.eq g.K.Hash.hash_input g.S.BuildHasher g.S.Hasher.Hasher) c.args.self.now c.args.idx (get_or c.self.inside.shards.now c.args.idx c.index-self-idx.result) =
    spot-of _ (lawful-of g.S.BuildHasher g.S.Hasher.Hasher g.met.K.Eq.laws g.met.K.Hash.respects_eq) c.self.inside.hasher.now c.self.inside.shards.now c.self.view_is c.self.invariant c.requires.below (ap (λ (d : Shown g). get_or c.self.inside.shards.now c.args.idx d) c.index-self-idx.is) in
    spot-hashed x (g.Q.Query.names c.args.key) c.args.hash c.requires.hashed

pub returns-in_err-position : goal.returns-in_err-position
returns-in_err-position g c =
    let x : Spot (key_hash g.K.PartialEq.eq g.K.Hash.hash_input g.S.BuildHasher g.S.Hasher.Hasher) c.args.self.now c.args.idx (get_or c.self.inside.shards.now c.args.idx c.index-self-idx.result) =
    spot-of _ (lawful-of g.S.BuildHasher g.S.Hasher.Hasher g.met.K.Eq.laws g.met.K.Hash.respects_eq) c.self.inside.hasher.now c.self.inside.shards.now c.self.view_is c.self.invariant c.requires.below (ap (λ (d : Shown g). get_or c.self.inside.shards.now c.args.idx d) c.index-self-idx.is) in
    rw c.from_residual.ensures (sym (named-stands x (g.Q.Query.names c.args.key) (g.met.Q.Query.respects_eq c.args.key) c.requires.routed ∙ c.in_err-position.ensures.finds.absent.0 refl))

pub returns : goal.returns
returns g c =
    let x : Spot (key_hash g.K.PartialEq.eq g.K.Hash.hash_input g.S.BuildHasher g.S.Hasher.Hasher) c.args.self.now c.args.idx (get_or c.self.inside.shards.now c.args.idx c.index-self-idx.result) =
    spot-of _ (lawful-of g.S.BuildHasher g.S.Hasher.Hasher g.met.K.Eq.laws g.met.K.Hash.respects_eq) c.self.inside.hasher.now c.self.inside.shards.now c.self.view_is c.self.invariant c.requires.below (ap (λ (d : Shown g). get_or c.self.inside.shards.now c.args.idx d) c.index-self-idx.is) in
    sym c.at.ensures.pair ∙ c.in_ok-position.ensures.finds.pair ∙ sym (named-stands x (g.Q.Query.names c.args.key) (g.met.Q.Query.respects_eq c.args.key) c.requires.routed)
