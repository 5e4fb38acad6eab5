-- What a closure gives for a value, and what its calls along pairs did.
use Rattle.std.specs.Prelude.{◌≡◌, Bool, List}
use Rattle.std.specs.Fn.{Once}
use Rattle.std.specs.List.{FoldsTo}
use denote.Ref.{Bor}
use Rattle.dash_shard.specs.Steps.{Act}

-- f may give v for the pair's value
abbrev pub GivesOn : {F K V : Type 0} → Once F (Bor K × (V × Unit {0})) V → F → K × V → V → Type 0
GivesOn {K = K} g f p v = (k : Bor K) × (k.now ≡ p.0) × g.post f (k, (p.1, tt)) v

-- the calls of f along these pairs, one after the other, did at each what the action says, and left f as the last
abbrev pub CalledAlong : {F K V : Type 0} → (F → K → V → Bool → V → F → Type 0) → Act K V → F → List (K × V) → F → Type 0
CalledAlong T act = FoldsTo (λ f p f'. T f p.0 p.1 (act p.0 p.1).1 (act p.0 p.1).0 f')
