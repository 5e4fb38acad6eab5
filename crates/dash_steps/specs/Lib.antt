pub mod Kept
pub mod Words
pub mod inner
pub mod Alike
pub mod Steps
pub mod Takes
