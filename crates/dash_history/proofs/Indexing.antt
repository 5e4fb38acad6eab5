-- The index of the callers' logs, as far as the loop has come.
use Rattle.std.proofs.Common.{◌≡◌, ◌≢◌, ℕ, ◌+◌, ◌<◌, ◌≤◌, List, length, Some, slice_get, get_or, slice_set, replicate, sym, ap, subst, ◌∙◌, inl, inr, arith, get_or-set_same, get_or-set_other}
use Rattle.std.proofs.Math.ListN.{length-set}
use Rattle.std.proofs.lemmas.Bool.{cases_eq, cases_lt}
use Rattle.std.proofs.lemmas.List.{length-replicate, get_or-replicate}
use Rattle.std.proofs.lemmas.Option.{slice_get-get_or, slice_get_within, same_Some}
use Rattle.dash_history.specs.inner.Gathering.{EachLog, Finds}
use Rattle.dash_history.specs.History.{LogState, IsLog}
use Rattle.dash_history.specs.Merge.{AreCallers}

-- a read within a list is the same whatever stands past its end
pub same-read : (t : List ℕ) (i x : ℕ) → i < length t → x ≡ get_or t i x → x ≡ get_or t i 0
same-read t i x lt e = same_Some x (get_or t i 0) (ap Some e ∙ sym (slice_get-get_or t i x lt) ∙ slice_get-get_or t i 0 lt)

module _ {K V A : Type 0} (callers : ℕ) (logs : List (LogState K V A)) where
  -- the index says that the log of caller j is one of the first i
  abbrev FoundIn : ℕ → List ℕ → ℕ → Type 0
  FoundIn i t j = (get_or t j 0 < i) × (m : LogState K V A) × (slice_get logs (get_or t j 0) ≡ Some m) × (m.caller ≡ j)

  -- the first i logs are in the index, where `length logs` stands for none
  pub record Indexed (i : ℕ) (t : List ℕ) : Type 0 where
    pub long : length t ≡ callers
    pub found : (j : ℕ) → j < callers → get_or t j 0 ≢ length logs → FoundIn i t j
    pub done : (k : ℕ) (l : LogState K V A) → k < i → slice_get logs k ≡ Some l → (l.caller < callers) × (get_or t l.caller 0 ≡ k) × IsLog l

  pub indexed-none : (t : List ℕ) → length t ≡ callers → ((j : ℕ) → j < callers → get_or t j 0 ≡ length logs) → Indexed 0 t
  indexed-none t long none = record { long = long; found = λ j lt ne. absurd (ne (none j lt)); done = λ k l lt e. absurd (omega (arith, lt)) }

  pub indexed-more : (i : ℕ) (t : List ℕ) (l : LogState K V A) → Indexed i t → slice_get logs i ≡ Some l → l.caller < callers → get_or t l.caller 0 ≡ length logs → IsLog l → Indexed (i + 1) (slice_set t l.caller i)
  indexed-more i t l x e few free lawful =
      let within : l.caller < length t = subst (λ n. l.caller < n) (sym x.long) few in
      let here : get_or (slice_set t l.caller i) l.caller 0 ≡ i = get_or-set_same t l.caller i 0 within in
      record {
        long = length-set t l.caller i ∙ x.long;
        found = λ j lt ne. elim (cases_eq j l.caller) as (λ _. FoundIn (i + 1) (slice_set t l.caller i) j) [
          | inl same ↦ let v = ap (λ n. get_or (slice_set t l.caller i) n 0) same ∙ here in (omega (arith, v), l, ap (slice_get logs) v ∙ e, sym same)
          | inr other ↦ let v = get_or-set_other t l.caller j i 0 other in let f = x.found j lt (λ z. ne (v ∙ z)) in (omega (arith, v, f.0), f.1, ap (slice_get logs) v ∙ f.2, f.3)
        ];
        done = λ k m lt f. elim (cases_lt k i) as (λ _. (m.caller < callers) × (get_or (slice_set t l.caller i) m.caller 0 ≡ k) × IsLog m) [
          | inl before ↦
              let d = x.done k m before f in
              let other : m.caller ≢ l.caller = λ same. absurd (omega (arith, d.1, ap (λ n. get_or t n 0) same, free, slice_get_within logs k m f)) in
              (d.0, get_or-set_other t l.caller m.caller i 0 other ∙ d.1, d.2)
          | inr past ↦
              let now : k ≡ i = omega (arith, lt, past) in
              let same : l ≡ m = same_Some l m (sym e ∙ ap (slice_get logs) (sym now) ∙ f) in
              subst (λ y. (y.caller < callers) × (get_or (slice_set t l.caller i) y.caller 0 ≡ k) × IsLog y) same (few, here ∙ sym now, lawful)
        ];
      }

  -- a caller that is out of range, or has two logs, or none
  pub too-many : (i : ℕ) (l : LogState K V A) → slice_get logs i ≡ Some l → callers ≤ l.caller → AreCallers callers logs → ⊥
  too-many i l e past all = omega (arith, all.few i l e, past)

  pub twice : (i : ℕ) (t : List ℕ) (l : LogState K V A) → Indexed i t → slice_get logs i ≡ Some l → l.caller < callers → get_or t l.caller 0 ≢ length logs → AreCallers callers logs → ⊥
  twice i t l x e few ne all = let f = x.found l.caller few ne in omega (arith, f.0, all.once i (get_or t l.caller 0) l f.1 e f.2 (sym f.3))

  pub missing : (t : List ℕ) (j : ℕ) → Indexed (length logs) t → j < callers → get_or t j 0 ≡ length logs → AreCallers callers logs → ⊥
  missing t j x lt none all =
      let f = all.all j lt in
      let within = slice_get_within logs f.0 f.1 f.2 in
      let d = x.done f.0 f.1 within f.2 in
      omega (arith, d.1, ap (λ n. get_or t n 0) f.3, none, within)

  pub indexed-all : (t : List ℕ) → Indexed (length logs) t → ((j : ℕ) → j < callers → get_or t j 0 ≢ length logs) → AreCallers callers logs × Finds callers logs t × EachLog logs
  indexed-all t x full = (
    record {
      few = λ i l e. (x.done i l (slice_get_within logs i l e) e).0;
      all = λ j lt. let f = x.found j lt (full j lt) in (get_or t j 0, f.1, f.2, f.3);
      once = λ i k l m e f same. sym (x.done i l (slice_get_within logs i l e) e).1 ∙ ap (λ n. get_or t n 0) same ∙ (x.done k m (slice_get_within logs k m f) f).1;
    },
    (x.long, λ j lt. let f = x.found j lt (full j lt) in (f.1, f.2, f.3)),
    λ i l e. (x.done i l (slice_get_within logs i l e) e).2,
  )

  pub indexed-blank : (t : List ℕ) → t ≡ replicate callers (length logs) → Indexed 0 t
  indexed-blank t is = rw is (indexed-none (replicate callers (length logs)) (length-replicate callers (length logs)) (λ j lt. get_or-replicate callers j (length logs) 0 lt))
