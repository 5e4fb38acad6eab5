pub mod Crosses
pub mod Places
pub mod Rows
pub mod Walking
