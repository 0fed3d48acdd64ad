pub mod Alike
pub mod Joined
pub mod Needed
pub mod Pairs
pub mod Stored
