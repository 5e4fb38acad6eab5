-- The answers of a closure that says of a pair what it says of no other.
use Rattle.std.proofs.Common.{◌≡◌, List, map, ap, ◌∙◌}
use Rattle.std.proofs.lemmas.Slice.Zip.{AllZip-map}
use Rattle.std.specs.List.{AllZip}
use Rattle.rayon.proofs.ListFacts.{AllZip-weaken}
use denote.Ref.{Bor}

-- The list is the pairs, each by its answer. Says k v t is the closure's `post`, so that the last argument is a `MapsEach`
pub maps-by : {K V T : Type 0} {Says : Bor K → Bor V → T → Type 0} (answer : K × V → T) → ((k : Bor K) (v : Bor V) (t : T) → Says k v t → t ≡ answer (k.now, v.now))
    → (ps : List (K × V)) (ts : List T) → AllZip (λ p t. (k : Bor K) × (v : Bor V) × (k.now ≡ p.0) × (v.now ≡ p.1) × Says k v t) ps ts → ts ≡ map answer ps
maps-by answer says ps ts each = AllZip-map answer ps ts (AllZip-weaken _ (λ p t. t ≡ answer p) (λ p t m. says m.0 m.1 t m.4 ∙ ap answer (λ i. (m.2 i, m.3 i))) ps ts each)
