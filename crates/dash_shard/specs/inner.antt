-- What only proofs, invariants and the contracts of private functions use.
pub mod SlotRows
pub mod Locks
pub mod Codes
pub mod Gives
pub mod Keys
pub mod Rows
pub mod Steps
pub mod Table
pub mod Walks
pub mod Cursors
pub mod Marks
