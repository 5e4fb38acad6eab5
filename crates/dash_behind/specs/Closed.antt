-- What a lock has, when a hold of it begins and when one ends, and what memory was refused.
use Rattle.std.specs.Prelude.{ℕ}

-- x was found behind a lock: a hold began with it, or the lock ended with it
pub FoundBehind : {X : Type 0} → X → Type 0
FoundBehind x = Unit {0}

-- x was read behind a lock, and the hold that read it ended
pub GivenBack : {X : Type 0} → X → Type 0
GivenBack x = Unit {0}

-- x was put behind a lock: a hold for writing ended with it, or the lock was made for it
pub LeftBehind : {X : Type 0} → X → Type 0
LeftBehind x = Unit {0}

-- a lock that was made for x ended with y
pub EndedWith : {X : Type 0} → X → X → Type 0
EndedWith x y = Unit {0}

-- memory was refused for a table with room for so many pairs, or for fewer
pub NoMemory : ℕ → Type 0
NoMemory most = Unit {0}

-- The words are closed: no proof unfolds them. These lemmas show them, and `dash_shard` alone can cite these, which hands on the
-- words without them.
pub found : {X : Type 0} (x : X) → FoundBehind x
unfolding FoundBehind
found x = tt

pub gave : {X : Type 0} (x : X) → GivenBack x
unfolding GivenBack
gave x = tt

pub left : {X : Type 0} (x : X) → LeftBehind x
unfolding LeftBehind
left x = tt

pub ended : {X : Type 0} (x y : X) → FoundBehind y → EndedWith x y
unfolding EndedWith
ended x y found = tt

-- `Table::with_groups` of `dash_shard` alone cites it, where one of its three requests for memory returns an error. Trusted with it is that
-- such an error is a refusal, and that no other proof cites it.
pub refused : (most : ℕ) → NoMemory most
unfolding NoMemory
refused most = tt
