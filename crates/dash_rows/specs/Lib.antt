pub mod Copies
pub mod Parallel
pub mod Words
pub mod inner
pub mod Apart
