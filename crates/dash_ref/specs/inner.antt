-- What only proofs, invariants and the contracts of private functions use.
pub mod Lending
pub mod Codes
pub mod Parts
pub mod RefMut
pub mod Entries
