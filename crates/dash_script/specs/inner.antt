-- What only proofs, invariants and the contracts of private functions use.
pub mod AlikeChange
pub mod Changes
pub mod Lines
pub mod Replay
pub mod Threads
pub mod Words
pub mod Command
pub mod Memo
