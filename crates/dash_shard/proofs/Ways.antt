-- The way of a hash round the groups of a table.
use Rattle.std.proofs.Common.{◌≡◌, ℕ, ◌+◌, ◌-◌, ◌%◌, ◌<◌, ◌≤◌, cond, sym, ap, ◌∙◌, inl, inr, arith}
use Rattle.std.proofs.lemmas.Bool.{cases_lt, lt-ltb}
use Rattle.std.proofs.Math.Nat.{mod-lt, add-mod_right, mod-eq_of_lt, add-mod}
use Rattle.dash_shard.specs.inner.Marks.{round, step_to, group_at, goes_past}

pub round-low : (n x : ℕ) → x < n → round n x ≡ x
unfolding round
round-low n x lt = search (arith, lt)

pub round-high : (n x : ℕ) → n ≤ x → round n x ≡ x - n
unfolding round
round-high n x le = search (arith, le)

pub step-low : (n a g : ℕ) → a ≤ g → step_to n a g ≡ g - a
unfolding step_to
step-low n a g le = search (arith, le)

pub step-high : (n a g : ℕ) → g < a → step_to n a g ≡ n - a + g
unfolding step_to
step-high n a g lt = search (arith, lt)

pub round_below : (n a s : ℕ) → a < n → s ≤ n → round n (a + s) < n
round_below n a s below within =
    elim (cases_lt (a + s) n) as (λ _. round n (a + s) < n) [
      | inl less ↦ omega (arith, less, round-low n (a + s) less)
      | inr more ↦ omega (arith, below, within, more, round-high n (a + s) more)
    ]

pub mod_below : (n h : ℕ) → 0 < n → h % n < n
mod_below n h pos = mod-lt h pos

-- one step on
pub round_last : (n a s g : ℕ) → a < n → s < n → g ≡ round n (a + s) → g + 1 ≡ n → round n (a + (s + 1)) ≡ 0
round_last n a s g below within here last =
    elim (cases_lt (a + s) n) as (λ _. round n (a + (s + 1)) ≡ 0) [
      | inl less ↦ omega (arith, less, here, last, round-low n (a + s) less, round-high n (a + (s + 1)) (omega (arith, here, last, round-low n (a + s) less)))
      | inr more ↦ absurd (omega (arith, below, within, more, here, last, round-high n (a + s) more))
    ]

pub round_next : (n a s g : ℕ) → a < n → s < n → g ≡ round n (a + s) → (g + 1 ≡ n → ⊥) → round n (a + (s + 1)) ≡ g + 1
round_next n a s g below within here more_left =
    elim (cases_lt (a + s) n) as (λ _. round n (a + (s + 1)) ≡ g + 1) [
      | inl less ↦ let is : g ≡ a + s = here ∙ round-low n (a + s) less in
          let apart : a + s + 1 ≡ n → ⊥ = λ e. more_left (omega (arith, is, e)) in
          omega (arith, is, round-low n (a + (s + 1)) (omega (arith, less, apart)))
      | inr more ↦ omega (arith, more, here, round-high n (a + s) more, round-high n (a + (s + 1)) (omega (arith, more)))
    ]

pub step_below : (n a g : ℕ) → a < n → g < n → step_to n a g < n
step_below n a g below within =
    elim (cases_lt g a) as (λ _. step_to n a g < n) [
      | inl less ↦ omega (arith, less, below, within, step-high n a g less)
      | inr more ↦ omega (arith, more, within, step-low n a g more)
    ]

-- the group at its own step
pub round_step : (n a g : ℕ) → a < n → g < n → round n (a + step_to n a g) ≡ g
round_step n a g below within =
    elim (cases_lt g a) as (λ _. round n (a + step_to n a g) ≡ g) [
      | inl less ↦ let s = step-high n a g less in omega (arith, less, below, within, s, round-high n (a + step_to n a g) (omega (arith, less, below, s)))
      | inr more ↦ let s = step-low n a g more in omega (arith, more, within, s, round-low n (a + step_to n a g) (omega (arith, more, within, s)))
    ]

-- and the step of the group at a step
pub step_round : (n a t : ℕ) → a < n → t < n → step_to n a (round n (a + t)) ≡ t
step_round n a t below within =
    elim (cases_lt (a + t) n) as (λ _. step_to n a (round n (a + t)) ≡ t) [
      | inl less ↦ let r = round-low n (a + t) less in
          ap (λ (g : ℕ). step_to n a g) r ∙ step-low n a (a + t) (omega arith) ∙ (let e : a + t - a ≡ t = omega arith in e)
      | inr more ↦ let r = round-high n (a + t) more in
          ap (λ (g : ℕ). step_to n a g) r ∙ step-high n a (a + t - n) (omega (arith, below, within, more)) ∙ (let e : n - a + (a + t - n) ≡ t = omega (arith, below, more) in e)
    ]

-- the group at a step is (h + s) mod n
pub round_mod : (n h s : ℕ) → 0 < n → s < n → group_at n h s ≡ (h + s) % n
round_mod n h s pos within =
    let lt : h % n < n = mod-lt h pos in
    let parts : (h + s) % n ≡ (h % n + s) % n = add-mod h s n ∙ ap (λ (x : ℕ). (h % n + x) % n) (mod-eq_of_lt within) in
    elim (cases_lt (h % n + s) n) as (λ _. round n (h % n + s) ≡ (h + s) % n) [
      | inl less ↦ round-low n (h % n + s) less ∙ sym (parts ∙ mod-eq_of_lt less)
      | inr more ↦ let is : h % n + s ≡ (h % n + s - n) + n = omega (arith, more) in
          let rest : h % n + s - n < n = omega (arith, lt, within) in
          round-high n (h % n + s) more ∙ sym (parts ∙ ap (λ (x : ℕ). x % n) is ∙ add-mod_right (h % n + s - n) n ∙ mod-eq_of_lt rest)
    ]

-- which groups a way goes past
pub past_yes : (n a s g : ℕ) → step_to n a g < s → goes_past n a s g ≡ 1
past_yes n a s g lt = ap (λ b. cond b 1 0) (lt-ltb _ _ lt)

pub past_no : (n a s g : ℕ) → s ≤ step_to n a g → goes_past n a s g ≡ 0
past_no n a s g le = search (arith, le)

-- one step further it goes past the group at that step, and past no other
pub past_more : (n a s g : ℕ) → a < n → g < n → s < n → (g ≡ round n (a + s) → ⊥) → goes_past n a (s + 1) g ≡ goes_past n a s g
past_more n a s g below within less other =
    elim (cases_lt (step_to n a g) s) as (λ _. goes_past n a (s + 1) g ≡ goes_past n a s g) [
      | inl before ↦ past_yes n a (s + 1) g (omega (arith, before)) ∙ sym (past_yes n a s g before)
      | inr after ↦
          let apart : step_to n a g ≡ s → ⊥ = λ e. other (sym (round_step n a g below within) ∙ ap (λ t. round n (a + t)) e) in
          past_no n a (s + 1) g (omega (arith, after, apart)) ∙ sym (past_no n a s g after)
    ]

pub past_here : (n a s g : ℕ) → a < n → s < n → g ≡ round n (a + s) → (goes_past n a (s + 1) g ≡ 1) × (goes_past n a s g ≡ 0)
past_here n a s g below less is =
    let step : step_to n a g ≡ s = ap (λ x. step_to n a x) is ∙ step_round n a s below less in
    (past_yes n a (s + 1) g (omega (arith, step)), past_no n a s g (omega (arith, step)))
