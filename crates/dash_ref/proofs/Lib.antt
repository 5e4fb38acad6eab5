mod Copies
mod Writing
