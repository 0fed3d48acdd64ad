pub mod Names
pub mod Reach
pub mod Parts
pub mod Added
pub mod Given
