pub mod Codes
pub mod Holding
pub mod IsHold
pub mod Lending
