pub mod Slots
pub mod Lends
pub mod Row
pub mod Cells
