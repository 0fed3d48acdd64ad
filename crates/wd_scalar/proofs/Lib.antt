pub mod Faultless
pub mod Resumed
