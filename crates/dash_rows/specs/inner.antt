-- What only proofs, invariants and the contracts of private functions use.
pub mod Copies
pub mod Halves
pub mod Held
pub mod Lanes
pub mod Rows
