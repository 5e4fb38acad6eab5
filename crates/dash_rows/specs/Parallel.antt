-- What parallel calls ask of a closure, and say of its answers.
use Rattle.std.specs.Prelude.{◌≡◌, List}
use Rattle.std.specs.Fn.{Shared}
use Rattle.std.specs.List.{AllZip}
use denote.Ref.{Bor}

module _ {F K V T : Type 0} (g : Shared F (Bor K × (Bor V × Unit {0})) T) (f : F) where
  -- f may be called at the pair
  abbrev pub MayMap : K × V → Type 0
  MayMap p = (k : Bor K) (v : Bor V) → k.now ≡ p.0 → v.now ≡ p.1 → g.pre f (k, (v, tt))

  -- and may return t there
  abbrev pub Maps : K × V → T → Type 0
  Maps p t = (k : Bor K) × (v : Bor V) × (k.now ≡ p.0) × (v.now ≡ p.1) × g.post f (k, (v, tt)) t

  -- an answer to each of these pairs, in their order
  abbrev pub MapsEach : List (K × V) → List T → Type 0
  MapsEach ps answers = AllZip Maps ps answers
