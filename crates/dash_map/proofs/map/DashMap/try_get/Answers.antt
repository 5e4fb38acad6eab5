use Rattle.std.proofs.Common.{◌∙◌, sym}
use Rattle.dash_shard.specs.Hashing.{key_hash}
use Rattle.dash_map.specs.Behind.{Serves}
use Rattle.dash_map.proofs.Seeing.{serves}
use Rattle.dash_map.proofs.map.DashMap.try_get.Given.{Over}
use Rattle.dash_map.proofs.map.DashMap.try_get.Goals.{In-Some}
use Rattle.dash_map.proofs.map.DashMap.try_get.Goals as goal

-- the shard that is held is the one of the key
abbrev here : (g : Over) (c : In-Some g) → Serves (key_hash g.K.PartialEq.eq g.K.Hash.hash_input g.S.BuildHasher g.S.Hasher.Hasher) c.args.self.now (g.Q.Query.names c.args.key) c.in-Some.guard.value
here g c = serves (key_hash g.K.PartialEq.eq g.K.Hash.hash_input g.S.BuildHasher g.S.Hasher.Hasher) c.args.self.now (g.Q.Query.names c.args.key) _ c.route_of-hash.ensures.routed c.in-Some.guard.value c.in-Some.ensures.tagged

pub find-requires : goal.find-requires
find-requires g c k named = c.route_of-hash.ensures.hashed k named ∙ sym (c.in-Some.ensures.tagged.hashes k)

pub returns-in-Some-find : goal.returns-in-Some-find
returns-in-Some-find g c =
    let at = here g (goal.at.returns-in-Some-find g c).In-Some in
    record {
      saw = (_, at, c.in-Some.ensures.found, record { pair = c.in-Some-find.ensures.pair; shard = c.in-Some-find.ensures.shard; back = tt });
      equal = c.in-Some-find.ensures.equal;
      stands = c.in-Some-find.ensures.stands;
      tagged = rw c.in-Some-find.ensures.shard (at.each c.in-Some-find.found.key c.in-Some-find.ensures.equal);
    }

pub returns-in-None : goal.returns-in-None
returns-in-None g c =
    record { saw = (_, here g (goal.at.returns-in-None g c).In-Some, c.in-Some.ensures.found, record { pair = c.in-None.ensures.pair; shard = tt; back = c.in-None.ensures.back }); equal = tt; stands = tt; tagged = tt }
