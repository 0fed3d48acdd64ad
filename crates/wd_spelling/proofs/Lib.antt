pub mod Waiting
pub mod Writing
