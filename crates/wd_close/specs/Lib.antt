pub mod Closure
pub mod Reached
pub mod Examples
