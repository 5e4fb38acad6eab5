pub mod Lists
pub mod Made
mod Growing
pub mod Telling
mod Recording
pub mod Parts
mod Adding
pub mod WholeLogs
pub mod Ordered
pub mod Merging
mod Placing
mod Indexing
mod Following
mod Alones
mod Faults
mod Logging
mod Maps
mod Refusals
mod Members
mod Alongs
mod Whole
mod Agreeing
mod Gathering
mod WholeAlone
mod Joining
mod SharedSteps
mod Standing
mod Counting
mod Cutting
mod There
mod Copying
