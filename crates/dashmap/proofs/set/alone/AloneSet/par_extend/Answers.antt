use Rattle.std.proofs.Common.{rules}
use Rattle.dash_shard.specs.Hashing.{key_hash}
use Rattle.dash_map.specs.Alone.{IsAlone}
use Rattle.dash_map.proofs.NonePut.{none-put}
use Rattle.dashmap.specs.Set.{members}
use Rattle.dashmap.proofs.Members.{members-some, on-refusal}
use Rattle.dashmap.proofs.set.alone.AloneSet.par_extend.Goals as goal

pub returns-in_err-pairs : goal.returns-in_err-pairs
returns-in_err-pairs g c =
    let lawful : IsAlone (key_hash g.K.PartialEq.eq g.K.Hash.hash_input g.S.BuildHasher g.S.Hasher.Hasher) c.self.inside.inner = search rules in
    let short = none-put (key_hash g.K.PartialEq.eq g.K.Hash.hash_input g.S.BuildHasher g.S.Hasher.Hasher) c.self.inside.inner lawful (members c.args.list.items) (members-some c.args.list.items c.in_err-pairs.ensures.some) in
    rw (← c.self.view_is) (record {
      gains = search rules;
      fronts = search rules;
      short = on-refusal c.from_residual.result short;
      stays = search rules;
      lawful = lawful;
    })
