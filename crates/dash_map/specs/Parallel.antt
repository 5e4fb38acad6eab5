-- What parallel calls on a map ask of a closure, and say of what it did.
use Rattle.std.specs.Prelude.{◌≡◌, Bool}
use Rattle.std.specs.Fn.{Shared}
use denote.Ref.{Bor, MutBor}

module _ {F K V : Type 0} (g : Shared F (Bor K × (MutBor V × Unit {0})) (Unit {0} × (MutBor V × Unit {0}))) where
  -- f may be called at k and v, and may write v
  abbrev pub MayWrite : F → K → V → Type 0
  MayWrite f k v = (p : Bor K) (q : MutBor V) → p.now ≡ k → q.now ≡ v → g.pre f (p, (q, tt))

  -- and such a call may leave w there. It leaves f as it is
  abbrev pub Writes : F → K → V → Bool → V → F → Type 0
  Writes f k v b w f' = (p : Bor K) × (q left : MutBor V) × (p.now ≡ k) × (q.now ≡ v) × (left.now ≡ w) × g.post f (p, (q, tt)) (tt, (left, tt)) × (f' ≡ f)
