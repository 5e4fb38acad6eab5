mod Numbers
mod PlainMaps
mod Reading
mod Replaying
mod Replies
mod Taking
mod Texts
mod Wholes
pub mod Working
mod OneWord
