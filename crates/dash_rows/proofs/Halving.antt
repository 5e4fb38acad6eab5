-- Work at each part of two stretches is work at each part of both together.
use Rattle.std.proofs.Common.{◌≡◌, ℕ, ◌+◌, ◌-◌, ◌<◌, List, ◌++◌, length, get_or, subst, ◌∙◌, ⊎_elim, arith, length-append}
use Rattle.std.proofs.lemmas.List.{get_or_append_left, get_or-append_right}
use Rattle.std.proofs.lemmas.Bool.{cases_lt}
use Rattle.dash_rows.specs.inner.Halves.{EachBeside}

module _ {P L : Type 0} where
  pub each-join : (R : ℕ → P → L → P → L → Type 0) (base m : ℕ) (ps qs : List P) (ls ms : List L) (ps' qs' : List P) (ls' ms' : List L) → length ps ≡ m → length ls ≡ m
      → EachBeside R base ps ls ps' ls' → EachBeside R (base + m) qs ms qs' ms' → EachBeside R base (ps ++ qs) (ls ++ ms) (ps' ++ qs') (ls' ++ ms')
  each-join R base m ps qs ls ms ps' qs' ls' ms' lp ll a b =
      let lp' : length ps' ≡ m = a.parts ∙ lp in
      let ll' : length ls' ≡ m = a.lanes ∙ ll in
      record {
        parts = omega (arith, length-append ps qs, length-append ps' qs', a.parts, b.parts);
        lanes = omega (arith, length-append ls ms, length-append ls' ms', a.lanes, b.lanes);
        each = λ k d e within. ⊎_elim
            (λ low.
            rw (get_or_append_left ps qs d k (omega (arith, lp)), get_or_append_left ls ms e k (omega (arith, ll)), get_or_append_left ps' qs' d k (omega (arith, lp')), get_or_append_left ls' ms' e k (omega (arith, ll')))
            (a.each k d e (omega (arith, lp))))
            (λ high.
            let is : base + m + (k - m) ≡ base + k = omega arith in
            let inside : k - m < length qs = omega (arith, lp, length-append ps qs) in
            rw (get_or-append_right ps qs m k d lp high, get_or-append_right ls ms m k e ll high, get_or-append_right ps' qs' m k d lp' high, get_or-append_right ls' ms' m k e ll' high)
            (subst (λ i. R i (get_or qs (k - m) d) (get_or ms (k - m) e) (get_or qs' (k - m) d) (get_or ms' (k - m) e)) is (b.each (k - m) d e inside)))
            (cases_lt k m);
      }
