use Rattle.std.proofs.Common.{refl}
use Rattle.dash_shard.proofs.Kept.{still-taken, tagged-kept}
use Rattle.dash_shard.proofs.Lawful.{lawful-of}
use Rattle.dash_shard.proofs.shard.tag.ShardLendable.pair_mut.Goals as goal

pub returns : goal.returns
returns g c =
    let z = c.args.self.now in let i = c.args.position in (
      (refl, λ w. refl),
      record {
        writes_back = tt;
        pair = c.at_mut.ensures.pair;
        keeps = λ tag w fits. tagged-kept _ (lawful-of g.S.BuildHasher g.S.Hasher.Hasher g.met.K.Eq.laws g.met.K.Hash.respects_eq) z i w _ _ _ fits c.requires;
        stays = λ w j has. still-taken z.slots i j w has;
      },
    )
