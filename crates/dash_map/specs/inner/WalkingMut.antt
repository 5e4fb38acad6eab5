-- How far a step of a walk that writes has come.
use Rattle.std.specs.Prelude.{◌≡◌, Bool, true, false}
use Rattle.dash_shard.specs.Hashing.{KeyHash}
use Rattle.dash_ref.specs.Ref.{RefState}
use Rattle.dash_map.specs.Walking.{IterState, IsDone}
use Rattle.dash_map.specs.inner.Walking.{GivesHere}

-- a step in the shard that is held
abbrev pub GoesHere : {K V S : Type 0} → KeyHash K S → IterState K V S → Bool → IterState K V S → Type 0
GoesHere {K} {V} {S} h old true new = (item : RefState K V S) × GivesHere h old item new
GoesHere h old false new = (new ≡ old) × IsDone old
