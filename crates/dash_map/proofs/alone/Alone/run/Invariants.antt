use Rattle.std.proofs.Common.{◌+◌, ◌≤◌, vec_len, vec_capacity}
use Rattle.dash_map.specs.Alone.{IsAlone, KeepsRoom, contents}
use Rattle.dash_map.specs.inner.Run.{rules_in}
use Rattle.dash_map.proofs.Running.{Running}
use Rattle.dash_map.proofs.alone.Alone.run.Given as goal
use Rattle.dash_shard.specs.Hashing.{key_hash}

abbrev pub invariant-loop-step : goal.invariant-loop-step
invariant-loop-step g l =
    let m = rules_in (key_hash g.K.PartialEq.eq g.K.Hash.hash_input g.S.BuildHasher g.S.Hasher.Hasher) g.K.Kept.alike g.V.Kept.alike l.fn.self in
    record {
      so_far : Running m g.A.Action.acts (contents l.fn.self) (contents l.self) l.fn.steps.items l.steps.items l.replies.items;
      stays : KeepsRoom l.fn.self l.self;
      lawful : IsAlone (key_hash g.K.PartialEq.eq g.K.Hash.hash_input g.S.BuildHasher g.S.Hasher.Hasher) l.self;
      room : vec_len l.replies + vec_len l.steps ≤ vec_capacity l.replies;
    }

abbrev pub decreases-loop-step : goal.decreases-loop-step
decreases-loop-step g l = vec_len l.steps
