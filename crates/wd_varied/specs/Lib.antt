pub mod Literals
pub mod Values
pub mod Suggested
pub mod Patterns
pub mod Places
pub mod Sizes
pub mod Varied
pub mod Work
