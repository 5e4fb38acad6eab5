-- What only proofs, invariants and the contracts of private functions use.
pub mod AlikeLaws
pub mod Copied
pub mod Hashed
pub mod Kinds
pub mod Plan
pub mod Sweep
pub mod Take
