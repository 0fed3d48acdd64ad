pub mod Held
mod Taken
pub mod Enough
pub mod Reading
pub mod Selected
