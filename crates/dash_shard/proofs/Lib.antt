mod SlotRows
mod Locks
mod Altering
pub mod Alls
mod Amounts
pub mod BySlot
mod Asking
mod Carrying
mod Counts
mod Cursors
pub mod Equals
mod Fours
mod Kept
pub mod Lawful
mod Lanes
pub mod Lending
mod Lowest
mod Marked
pub mod Moving
pub mod Naming
pub mod Querying
mod Odds
mod Slots
mod Placing
mod Positions
pub mod Remade
mod Rewriting
pub mod Routing
pub mod Rows
mod Searching
mod Shards
mod Shrinking
mod Sweeping
mod Tells
pub mod Unions
mod Ways
mod Written
