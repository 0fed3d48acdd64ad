pub mod Names
pub mod Seen
pub mod Terms
pub mod Uses
