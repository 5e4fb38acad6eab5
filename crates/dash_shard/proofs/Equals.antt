-- Equal keys, and what stands at them.
use Rattle.std.proofs.Common.{◌≡◌, Bool, true, false, cond, List, [], ◌∷◌, Some, refl, ap, ◌∙◌}
use Rattle.std.specs.Cmp.{IsEquivalence}
use Rattle.dash_shard.specs.Contents.{Keys, at}

module _ {K : Type 0} {eq : K → K → Bool} (laws : IsEquivalence eq) where
  -- what is equal to one of two equal keys is equal to the other
  pub along : (p k j : K) → eq k j ≡ true → eq p k ≡ eq p j
  along p k j e = laws.symm p k ∙ laws.congr k j p e ∙ laws.symm j p

  pub apart : (p k j : K) → eq p k ≡ true → eq k j ≡ false → eq p j ≡ false
  apart p k j e f = laws.congr p k j e ∙ f

-- equal keys find the same pair
pub at-equal : {K V : Type 0} (w : Keys K) → IsEquivalence w.eq → (ps : List (K × V)) (j k : K) → w.eq j k ≡ true → at w.eq ps j ≡ at w.eq ps k
at-equal w laws [] j k e = refl
at-equal w laws (p ∷ ps) j k e = ap (λ b. cond b (Some p) (at w.eq ps j)) (along laws p.0 j k e) ∙ ap (λ o. cond (w.eq p.0 k) (Some p) o) (at-equal w laws ps j k e)
