-- What a map of one owner ends as, once a `&mut` into it has ended.
use Rattle.std.specs.Prelude.{Bool, map}
use Rattle.dash_shard.specs.Shard.{with_value_of}
use Rattle.dash_map.specs.Alone.{AloneState}

-- the map with another value in the pair whose key is named
abbrev pub with_value_at : {K V S : Type 0} → (K → Bool) → AloneState K V S → V → AloneState K V S
with_value_at names a v = record a { row = map (λ s. with_value_of names s v) a.row }
