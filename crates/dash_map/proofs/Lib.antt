mod AloneWalks
pub mod Answering
mod CopyingMaps
mod Listing
mod Distincts
mod Entering
mod Extending
mod Folding
mod Found
mod Leaving
mod Lending
pub mod Lifting
mod Moves
pub mod NonePut
mod ParExtending
mod ParSharing
mod Refusals
mod Reserving
mod Rooms
mod Running
pub mod ParRunning
mod Seeing
mod Spots
mod Sweeping
mod Taken
mod Turning
mod Trying
mod Walks
mod Workers
mod Stepping
mod SteppingMut
