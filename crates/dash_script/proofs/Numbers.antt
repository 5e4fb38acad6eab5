-- Decimal numbers without sign and without leading zeros.
use Rattle.std.proofs.Common.{◌≡◌, ℕ, ◌<◌, ◌^◌, List, length, get_or, Ok, Err, refl, sym, ap, subst, ◌∙◌, inl, inr, arith}
use Rattle.std.specs.declared.result.Result.{Result}
use Rattle.std.specs.Option.{IfSome, IfNone}
use Rattle.std.specs.Result.{result_ok}
use Rattle.std.specs.Fmt.{decimal}
use Rattle.std.specs.Str.Parse.{ParsesUnsigned, IsNumeral, digits_value, without_leading_plus}
use Rattle.std.proofs.lemmas.Bool.{cases_lt, ne_eqb}
use Rattle.std.proofs.lemmas.Str.Parse.{numerals_by_value, tells_digits, tells_by_index}
use Rattle.std.proofs.lemmas.Fmt.{decimal_nonempty, first_decimal, decimal_digit, digits_decimal, decimal_is_IsNumeral, decimal-digits_value}
use Rattle.dash_script.specs.inner.Words.{IsPlain}

-- what `{}` prints is plain
pub plain-decimal : (n : ℕ) → n < 2 ^ 64 → IsPlain (decimal n)
plain-decimal n small =
    let some = decimal_nonempty n small in
    let digit = digits_decimal (numerals_by_value _ tells_by_index) n small 0 some in
    record {
      some = some;
      low = omega (arith, digit);
      high = omega (arith, digit);
      zero = λ e. elim (cases_lt 0 n) as (λ _. length (decimal n) ≡ 1) [
        | inl above ↦ absurd (omega (arith, e, first_decimal n above small))
        | inr none ↦ subst (λ m. length (decimal m) ≡ 1) (omega (arith, none)) (ap length (decimal_digit 0 (omega arith)))
      ];
    }

-- no sign is left out
same : (word : List ℕ) → IsPlain word → without_leading_plus word ≡ word
same word plain = rw (ne_eqb (get_or word 0 0) 43 (λ e. omega (arith, e, plain.low))) refl

-- what a plain word is read as
pub read : (E : Type 0) (word : List ℕ) (r : Result ℕ E) → IsPlain word → ParsesUnsigned {E = E} 64 10 word r
    → IfSome (result_ok r) (λ n. word ≡ decimal n) × IfNone (result_ok r) ((n : ℕ) → n < 2 ^ 64 → word ≡ decimal n → ⊥)
read E word (Ok n) plain p =
    let q = subst (λ w. (IsNumeral 10 w × (digits_value 10 w < 2 ^ 64)) × (n ≡ digits_value 10 w)) (same word plain) p in
    (sym (ap decimal q.1 ∙ decimal-digits_value (numerals_by_value _ tells_digits) word q.0.0.1 plain.some plain.zero q.0.1), tt)
read E word (Err e) plain p = (
  tt,
  λ n small is.
      let d = decimal_is_IsNumeral n small in
      p (subst (λ w. IsNumeral 10 w × (digits_value 10 w < 2 ^ 64)) (sym (same word plain ∙ is)) (d.0, omega (arith, d.1, small))),
)
