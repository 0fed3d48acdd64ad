pub mod Turns
pub mod Lists
pub mod Whole
pub mod Held
