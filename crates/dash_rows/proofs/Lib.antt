pub mod Copying
mod Lists
pub mod Halving
pub mod Running
pub mod Dealing
pub mod Handing
pub mod Taking
pub mod Weaving
pub mod Holding
