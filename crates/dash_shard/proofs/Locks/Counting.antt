-- A lawful step of the word, by how many holders it says.
use Rattle.std.proofs.Common.{ℕ, ◌≡◌, ◌+◌, ◌-◌, ◌*◌, ◌/◌, ◌%◌, ◌^◌, ◌<◌, ◌≤◌, Bool, true, false, Option, Some, None, ap, sym, refl, subst, arith, ◌∙◌, inl, inr}
use Rattle.std.specs.Prelude.{nat_le, nat_lt, ◌==◌, if◌then◌else◌, is_some, bit_and}
use Rattle.std.specs.Option.{option_map}
use Rattle.std.proofs.lemmas.Bool.{false≢true, leb-true, le-leb, ltb-true, eqb-true, ne_eqb}
use Rattle.dash_shard.specs.declared.lock.word.LockEvent.TheVariants.{TakeShared, TakeExclusive, ReleaseShared, ReleaseExclusive, Downgrade, SetMark}
use mathlib.Core.Logic.{dite}
use native.Mathlib.Decide.{dec_le, ℕ_discrete}
use Rattle.dash_shard.specs.declared.lock.word.Mark.{Mark}
use Rattle.dash_shard.specs.declared.lock.word.Mark.TheVariants.{Readers, Writers}
use Rattle.dash_shard.specs.inner.Locks.Holding.{count, IsTake, IsMark, IsCounted}
use Rattle.dash_shard.specs.LockState.{Holders, readers, writer, LockState, most, word_of, state_of, free, after_by, marked, Steps}

abbrev or_zero : Option ℕ → ℕ
or_zero None = 0
or_zero (Some n) = n

none : {A : Type 0} {n : ℕ} → Option ℕ → None ≡ Some n → A
none o e = absurd (false≢true (ap is_some e))

abbrev bit : Bool → ℕ
bit b = if b then 1 else 0

bit_le : (b : Bool) → bit b ≤ 1
bit_le true = omega arith
bit_le false = omega arith

-- the marks of a word
abbrev marks : ℕ → ℕ
marks w = bit (w % 2 == 1) + 2 * bit ((w / 2) % 2 == 1)

marks_le : (w : ℕ) → marks w ≤ 3
marks_le w = let a = bit_le (w % 2 == 1) in let b = bit_le ((w / 2) % 2 == 1) in omega arith

abbrev with_holders : ℕ → Holders → LockState
with_holders w h = record (state_of w) { holders = h }

abbrev holders_by : ℕ → Bool → Holders
holders_by w b = if b then readers (w / 4) else writer

pub shared_counts : (w v : ℕ) → Steps TakeShared w v → (count v ≡ count w + 1) × (count v ≤ most)
shared_counts w v = by (nat_le (w / 4) most) refl
  where
    on : (b : Bool) → nat_lt (w / 4) most ≡ b → option_map word_of (if b then Some (with_holders w (readers (w / 4 + 1))) else None) ≡ Some v → (count v ≡ count w + 1) × (count v ≤ most)
    on false le e = none None e
    on true lt e = let is : 4 * (w / 4 + 1) + marks w ≡ v = ap or_zero e in let few = ltb-true (w / 4) most lt in let m = marks_le w in (omega arith, omega arith)

    by : (b : Bool) → nat_le (w / 4) most ≡ b → option_map word_of (after_by TakeShared (holders_by w b) (state_of w)) ≡ Some v → (count v ≡ count w + 1) × (count v ≤ most)
    by false le e = none None e
    by true le e = on (nat_lt (w / 4) most) refl e

pub exclusive_counts : (w v : ℕ) → Steps TakeExclusive w v → (count w ≡ 0) × (most < count v)
exclusive_counts w v = by (nat_le (w / 4) most) refl
  where
    on : (b : Bool) → (w / 4 == 0) ≡ b → option_map word_of (if b then Some (with_holders w writer) else None) ≡ Some v → (count w ≡ 0) × (most < count v)
    on false le e = none None e
    on true zero e = let is : (2 ^ 64 - 4) + marks w ≡ v = ap or_zero e in let m = marks_le w in (eqb-true (w / 4) 0 zero, omega arith)

    by : (b : Bool) → nat_le (w / 4) most ≡ b → option_map word_of (after_by TakeExclusive (holders_by w b) (state_of w)) ≡ Some v → (count w ≡ 0) × (most < count v)
    by false le e = none None e
    by true le e = on (w / 4 == 0) refl e

pub mark_counts : (m : Mark) (w v : ℕ) → w < 2 ^ 64 → Steps (SetMark m) w v → count v ≡ count w
mark_counts m w v fits = by (nat_le (w / 4) most) refl
  where
    on : (b : Bool) → (w / 4 == 0) ≡ b → option_map word_of (if b then None else Some (marked m (with_holders w (readers (w / 4))))) ≡ Some v → count v ≡ count w
    on true zero e = none None e
    on false some e = at m e
      where
        at : (k : Mark) → Some (word_of (marked k (with_holders w (readers (w / 4))))) ≡ Some v → count v ≡ count w
        at Readers e = let is : 4 * (w / 4) + (1 + 2 * bit ((w / 2) % 2 == 1)) ≡ v = ap or_zero e in let b = bit_le ((w / 2) % 2 == 1) in omega arith
        at Writers e = let is : 4 * (w / 4) + (bit (w % 2 == 1) + 2 * 1) ≡ v = ap or_zero e in let b = bit_le (w % 2 == 1) in omega arith

    all : most < w / 4 → (k : Mark) → Some (word_of (marked k (with_holders w writer))) ≡ Some v → count v ≡ count w
    all h Readers e = let is : (2 ^ 64 - 4) + (1 + 2 * bit ((w / 2) % 2 == 1)) ≡ v = ap or_zero e in let b = bit_le ((w / 2) % 2 == 1) in omega arith
    all h Writers e = let is : (2 ^ 64 - 4) + (bit (w % 2 == 1) + 2 * 1) ≡ v = ap or_zero e in let b = bit_le (w % 2 == 1) in omega arith

    by : (b : Bool) → nat_le (w / 4) most ≡ b → option_map word_of (after_by (SetMark m) (holders_by w b) (with_holders w (holders_by w b))) ≡ Some v → count v ≡ count w
    by true le e = on (w / 4 == 0) refl e
    by false gt e = all (dite (dec_le (w / 4) most) (λ l. absurd (false≢true (sym gt ∙ le-leb (w / 4) most l))) (λ n. omega arith)) m e

-- the two lowest bits are the marks
bit_of : (k : ℕ) → k < 2 → bit (k == 1) ≡ k
bit_of k less = dite (ℕ_discrete k 0) (λ z. subst (λ j. bit (j == 1) ≡ j) (sym z) refl) (λ n. let one : k ≡ 1 = omega arith in subst (λ j. bit (j == 1) ≡ j) (sym one) refl)

pub word_is : (n : ℕ) → n ≡ 4 * (n / 4) + marks n
word_is n = let a = bit_of (n % 2) (omega arith) in let b = bit_of ((n / 2) % 2) (omega arith) in omega arith

pub word_of_state : (w : ℕ) → w < 2 ^ 64 → word_of (state_of w) ≡ w
word_of_state w fits = by (nat_le (w / 4) most) refl
  where
    by : (b : Bool) → nat_le (w / 4) most ≡ b → word_of (with_holders w (holders_by w b)) ≡ w
    by true le = sym (word_is w)
    by false gt = let is = word_is w in let many : most < w / 4 = dite (dec_le (w / 4) most) (λ l. absurd (false≢true (sym gt ∙ le-leb (w / 4) most l))) (λ n. omega arith) in omega arith

-- the last step of a hold is lawful at the word that it finds
pub shared_leaves : (n : ℕ) → 0 < count n → count n ≤ most → Steps ReleaseShared n (n - 4)
shared_leaves n some few =
    let is = word_is n in let last : Some (4 * (n / 4 - 1) + marks n) ≡ Some (n - 4) = ap Some (omega arith) in
    subst (λ b. option_map word_of (after_by ReleaseShared (holders_by n b) (state_of n)) ≡ Some (n - 4)) (sym (le-leb (n / 4) most few))
    (subst (λ b. option_map word_of (if b then None else Some (with_holders n (readers (n / 4 - 1)))) ≡ Some (n - 4)) (sym (ne_eqb (n / 4) 0 (λ z. omega arith))) last)

pub exclusive_leaves : (n : ℕ) → most < count n → Steps ReleaseExclusive n 0
exclusive_leaves n held = by (nat_le (n / 4) most) refl
  where
    by : (b : Bool) → nat_le (n / 4) most ≡ b → option_map word_of (after_by ReleaseExclusive (holders_by n b) (state_of n)) ≡ Some 0
    by true le = let l = leb-true (n / 4) most le in absurd (omega arith)
    by false gt = refl

pub downgrades : (n : ℕ) → n < 2 ^ 64 → most < count n → Steps Downgrade n (bit_and n 6)
downgrades n fits held = let at : (k : ℕ) → n ≡ k → Steps Downgrade k (bit_and k 6) → Steps Downgrade n (bit_and n 6) = λ k e is. subst (λ (m : ℕ). Steps Downgrade m (bit_and m 6)) (sym e) is in
    dite (ℕ_discrete n 18446744073709551612) (λ e. at 18446744073709551612 e refl) (λ e₀. dite (ℕ_discrete n 18446744073709551613) (λ e. at 18446744073709551613 e refl) (λ e₁.
    dite (ℕ_discrete n 18446744073709551614) (λ e. at 18446744073709551614 e refl) (λ e₂. at 18446744073709551615 (omega arith) refl)))

pub takes_counted : (w v : ℕ) → IsTake w v → IsCounted w v
takes_counted w v (inl e) = let c = shared_counts w v e in ((λ h. absurd (omega arith)), λ _. c.0)
takes_counted w v (inr e) = let c = exclusive_counts w v e in ((λ _. c.0), λ l. absurd (omega arith))

pub marks_counted : (w v : ℕ) → w < 2 ^ 64 → IsMark w v → count v ≡ count w
marks_counted w v fits (inl e) = mark_counts Readers w v fits e
marks_counted w v fits (inr (inl e)) = mark_counts Writers w v fits e
marks_counted w v fits (inr (inr e)) = cleared (word_of (state_of w) == 2) refl e
  where
    cleared : (b : Bool) → (word_of (state_of w) == 2) ≡ b → option_map word_of (if b then Some free else None) ≡ Some v → count v ≡ count w
    cleared false two e = none None e
    cleared true two e = let zero : 0 ≡ v = ap or_zero e in let is : word_of (state_of w) ≡ 2 = eqb-true (word_of (state_of w)) 2 two in let whole : word_of (state_of w) ≡ w = word_of_state w fits in omega arith
