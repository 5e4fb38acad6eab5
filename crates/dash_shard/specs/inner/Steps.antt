-- Parts of what a step does and replies.
use Rattle.std.specs.Prelude.{ℕ, ◌≡◌, List, Option, option_map}
use Rattle.std.specs.Option.{option_map_or}
use Rattle.dash_shard.specs.Contents.{Keys, at}
use Rattle.dash_shard.specs.Steps.{Step, Reply, line, line_shard, line_after, LineReplies}

module _ {K V : Type 0} (w : Keys K) where
  -- the shard of a step
  abbrev pub step_shard : Step K V → ℕ
  step_shard step = line_shard w (line step)

  -- what stands at the key j after a step, from what stood there
  abbrev pub after : Step K V → K → Option (K × V) → Option (K × V)
  after step j o = line_after w (line step) j o

  -- a step at the contents ps may get this reply
  abbrev pub Replies : Step K V → List (K × V) → Reply K V → Type 0
  Replies step ps r = LineReplies w (line step) ps r

-- the value of a pair, if there is one
abbrev pub value : {K V : Type 0} → Option (K × V) → Option V
value o = option_map (λ p. p.1) o

-- the stored key, or k where there is none
abbrev pub key_or : {K V : Type 0} → K → Option (K × V) → K
key_or k o = option_map_or (λ p. p.0) o k

-- a step makes qs of the contents ps
abbrev pub Becomes : {K V : Type 0} → Keys K → Step K V → List (K × V) → List (K × V) → Type 0
Becomes {K} w step ps qs = (j : K) → at w.eq qs j ≡ after w step j (at w.eq ps j)
