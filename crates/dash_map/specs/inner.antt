-- What only proofs, invariants and the contracts of private functions use.
pub mod AloneWalk
pub mod Parallel
pub mod Rooms
pub mod Run
pub mod Walking
pub mod WalkingMut
