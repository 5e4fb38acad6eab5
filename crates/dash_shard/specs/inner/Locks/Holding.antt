-- What a shared lock keeps, and what a hold on it owns.
-- A lock is shared for a lifetime, and its value for rounds, each a lifetime of its own that lasts from one writer to the next.
-- The token of a round has 2 ^ 63 parts: each reader has one, and the word keeps the rest. A writer's take gives it the whole token: it ends the round, has the value, and begins another round right before its release.
use Rattle.std.specs.Prelude.{◌≡◌, ℕ, zero, suc, ◌+◌, ◌-◌, ◌/◌, ◌^◌, ◌<◌, ◌≤◌, ◌⊎◌, [], ◌∷◌}
use base.Fraction.{full_share}
use base.FractionLaws.{Counts}
use base.Stored.{coded_ℕ}
use base.SetCodes.{coded}
use base.Algebra.{Algebra}
use base.Algebras.{both, shares, agreed}
use base.Fml.{Lft, GName, Share, Fml, ftrue, ffalse, fsep, fex, flft, fbor, flent, fown, fobs, fauth}
use prog.Memory.{up, align}
use types.Na.{out}
use denote.RattleType.{RattleType}
use denote.Memory.{part_at, shared_of, lone}
use denote.RawPtr.{Ptr, block_ptr, null_ptr}
use denote.Sharing.{said, beside, some, ends, always, within, nothing}
use Rattle.core.specs.Sync.RawAtomic.{word}
use Rattle.dash_shard.specs.LockState.{most, Steps}
use Rattle.dash_shard.specs.declared.lock.word.Mark.TheVariants.{Readers, Writers}
use Rattle.dash_shard.specs.declared.lock.word.LockEvent.TheVariants.{TakeShared, TakeExclusive, SetMark, ClearWriters}

-- how many holders a word says: up to `most` they are readers, and above it there is a writer
abbrev pub count : ℕ → ℕ
count w = w / 4

-- by what the word of one reader more is greater
abbrev pub one_reader : ℕ
one_reader = 4

-- a take to read, or to write
abbrev pub IsTake : ℕ → ℕ → Type 0
IsTake old new = Steps TakeShared old new ⊎ Steps TakeExclusive old new

-- a mark more, or the writers' one less where nothing else stands
abbrev pub IsMark : ℕ → ℕ → Type 0
IsMark old new = Steps (SetMark Readers) old new ⊎ (Steps (SetMark Writers) old new ⊎ Steps ClearWriters old new)

-- what a take makes of the holders
abbrev pub IsCounted : ℕ → ℕ → Type 0
IsCounted old new = (most < count new → count old ≡ 0) × (count new ≤ most → count new ≡ count old + 1)

-- the right that a take of the word `new` gains: 1 to read, 2 to write
abbrev pub Gains : ℕ → ℕ → Type 0
Gains new right = (most < count new → right ≡ 2) × (count new ≤ most → right ≡ 1)

abbrev pub fact : Type 0 → Fml
fact φ = fex φ (λ _. ftrue)

-- the name of a round, in shares that agree
abbrev pub rounds : Algebra
rounds = both shares (agreed (coded coded_ℕ))

abbrev pub names : GName → Share → ℕ → Fml
names γ e a = fown rounds γ (e, a)

-- a share of the round a, and k of its parts
abbrev pub share : GName → ℕ → Share → Fml
share γ a e = fsep (flft (a ∷ []) e) (names γ e a)

abbrev pub parts : GName → ℕ → ℕ → Fml
parts γ a k = fex Share (λ e. fex (Counts 63 e k) (λ _. share γ a e))

abbrev pub idle : GName → Fml
idle γ = fex ℕ (names γ full_share)

-- what is fixed while a lock is shared
pub record Fixed (X : Type 0) : Type 0 where
  -- the lifetime that it is shared for
  pub life : Lft
  -- the name that says the round
  pub round : GName
  -- out while a writer has the value
  pub lent : GName
  -- tracks the value
  pub track : GName
  -- the value at first
  pub first : X

-- the value is away at a writer, or x is shared for the round a
pub data Phase (X : Type 0) : Type 0 where
  away : Phase X
  shared : ℕ → X → Phase X

abbrev pub offset : RattleType → ℕ
offset R = up (align (lone R.mir)) 8

abbrev pub lock_owns : (R : RattleType) → (R.Denot → Type 0) → (ℕ → R.Denot → Fml) → Fml
lock_owns R ok fields = fex (ℕ × R.Denot) (λ s. fsep (fields s.0 s.1) (fact (ok s.1)))

module _ (R : RattleType) (ok : R.Denot → Type 0) (b o : ℕ) where
  -- the value, which fits
  abbrev pub fitting : R.Denot → ℕ → Fml
  fitting x e = fsep (part_at R full_share x b e) (fact (ok x))

  abbrev pub at_home : GName → R.Denot → Fml
  at_home ε x = fsep (fitting x (o + offset R)) (fauth ε (R.coded.code x))

  abbrev pub cell : GName → Fml
  cell ε = fex R.Denot (at_home ε)

  abbrev pub seen : R.Denot → Lft → Fml
  seen x = beside (said (fact (ok x))) (shared_of R x b (o + offset R))

  module _ (t : Fixed R.Denot) where
    abbrev pub waits : ℕ → Fml
    waits a = flent (a ∷ t.life) (fbor t.life (cell t.track))

    -- x is shared for the round a, and comes back when a ends
    abbrev pub round_of : ℕ → R.Denot → Fml
    round_of a x = fsep (fobs t.track (R.coded.code x)) (fsep (seen x (a ∷ t.life)) (waits a))

    abbrev pub state : ℕ → Phase R.Denot → Fml
    state w away = fsep (fact (most < count w)) (idle t.round)
    state w (shared a x) = fsep (fact (count w ≤ most)) (fsep (parts t.round a (2 ^ 63 - count w)) (fsep (out t.lent) (round_of a x)))

    abbrev pub State : ℕ → Fml
    State w = fex (Phase R.Denot) (state w)

    abbrev pub Inv : Fml
    Inv = fex ℕ (λ w. fsep (word b (o + 0) w) (State w))

    abbrev pub kept : Lft → Fml
    kept = beside (ends t.life) (always (fbor t.life Inv))

    -- what a reader has: a part of the round
    abbrev pub reader : R.Denot → Fml
    reader x = fex ℕ (λ a. fsep (parts t.round a 1) (seen x (a ∷ t.life)))

    -- the whole round, as a writer's two steps take it out of the word and put it back
    abbrev pub begun : R.Denot → ℕ → Fml
    begun x a = fsep (flft (a ∷ []) full_share) (round_of a x)

    abbrev pub whole_round : R.Denot → Fml
    whole_round x = fsep (out t.lent) (fex ℕ (begun x))

    -- what a take gains
    abbrev pub gain_of : ℕ → R.Denot → Fml
    gain_of zero x = ftrue
    gain_of (suc zero) x = reader x
    gain_of (suc (suc k)) x = whole_round x

    -- what a writer has between the two: the value, to be changed and lent; no round runs
    abbrev pub tracked : R.Denot → Fml
    tracked x = fsep (fobs t.track (R.coded.code x)) (fbor t.life (cell t.track))

    abbrev pub writer : R.Denot → Fml
    writer x = fsep (out t.lent) (tracked x)

    abbrev pub right_to : ℕ → R.Denot → Fml
    right_to zero x = ftrue
    right_to (suc zero) x = reader x
    right_to (suc (suc k)) x = writer x

  abbrev pub shown : Lft → ℕ → R.Denot → Lft → Fml
  shown β zero x = nothing
  shown β (suc k) x = within β (seen x)

abbrev pub lock_shares : (R : RattleType) → (R.Denot → Type 0) → Ptr → Lft → Fml
lock_shares R ok (block_ptr b o) = some (Fixed R.Denot) (kept R ok b o)
lock_shares R ok null_ptr = said ffalse

abbrev pub hold_owns : Lft → (R : RattleType) → (R.Denot → Type 0) → Ptr → ℕ → R.Denot → Fml
hold_owns β R ok (block_ptr b o) right x = fex (Fixed R.Denot) (λ t. fsep (kept R ok b o t β) (right_to R ok b o t right x))
hold_owns β R ok null_ptr right x = ffalse

abbrev pub hold_shares : Lft → (R : RattleType) → (R.Denot → Type 0) → Ptr → ℕ → R.Denot → Lft → Fml
hold_shares β R ok (block_ptr b o) right x = shown R ok b o β right x
hold_shares β R ok null_ptr right x = said ffalse
