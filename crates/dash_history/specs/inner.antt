-- What only proofs, invariants and the contracts of private functions use.
pub mod Grows
pub mod Parts
pub mod Tells
pub mod Gathering
pub mod Fresh
pub mod Locks
