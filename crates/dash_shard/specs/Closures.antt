-- What a closure may do on a pair.
use Rattle.std.specs.Prelude.{◌≡◌, Bool, Option, None, MatchOption, IsSomeAnd}
use Rattle.std.specs.Fn.{Once}
use denote.Ref.{Bor, MutBor}

-- f may be called at the pair
abbrev pub MayAsk : {F K V R : Type 0} → Once F (Bor K × (Bor V × Unit {0})) R → F → K × V → Type 0
MayAsk {K = K} {V = V} g f p = (k : Bor K) (v : Bor V) → k.now ≡ p.0 → v.now ≡ p.1 → g.pre f (k, (v, tt))

-- and may return r there
abbrev pub AnswersOn : {F K V R : Type 0} → Once F (Bor K × (Bor V × Unit {0})) R → F → K × V → R → Type 0
AnswersOn {K = K} {V = V} g f p r = (k : Bor K) × (v : Bor V) × (k.now ≡ p.0) × (v.now ≡ p.1) × g.post f (k, (v, tt)) r

-- the result is what f may return at the pair that is there, and none where there is none
abbrev pub Viewed : {F K V R : Type 0} → Once F (Bor K × (Bor V × Unit {0})) R → F → Option (K × V) → Option R → Type 0
Viewed g f there result = MatchOption there (result ≡ None) (λ p. IsSomeAnd result (AnswersOn g f p))

-- f may give the action's answer on the pair
abbrev pub Answered : {F K V : Type 0} → Once F (Bor K × (Bor V × Unit {0})) Bool → F → K × V → V × Bool → Type 0
Answered g f p d = AnswersOn g f p d.1

-- f may be called at the pair, and may write its value
abbrev pub MayChange : {F K V : Type 0} → Once F (Bor K × (MutBor V × Unit {0})) (Bool × (MutBor V × Unit {0})) → F → K × V → Type 0
MayChange {K = K} {V = V} g f p = (k : Bor K) (v : MutBor V) → k.now ≡ p.0 → v.now ≡ p.1 → g.pre f (k, (v, tt))

-- and may leave the value d.0 there and return d.1
abbrev pub ChangesOn : {F K V : Type 0} → Once F (Bor K × (MutBor V × Unit {0})) (Bool × (MutBor V × Unit {0})) → F → K × V → V × Bool → Type 0
ChangesOn {K = K} {V = V} g f p d = (k : Bor K) × (v : MutBor V) × (w : MutBor V) × (k.now ≡ p.0) × (v.now ≡ p.1) × (w.now ≡ d.0) × g.post f (k, (v, tt)) (d.1, (w, tt))

-- f may be called at the pair, whose value it takes
abbrev pub MayGive : {F K V : Type 0} → Once F (Bor K × (V × Unit {0})) V → F → K × V → Type 0
MayGive {K = K} g f p = (k : Bor K) → k.now ≡ p.0 → g.pre f (k, (p.1, tt))

-- and may give the action's value for it
abbrev pub Given : {F K V : Type 0} → Once F (Bor K × (V × Unit {0})) V → F → K × V → V × Bool → Type 0
Given {K = K} g f p d = (k : Bor K) × (k.now ≡ p.0) × g.post f (k, (p.1, tt)) d.0
