pub mod Causes
pub mod Reading
pub mod Given
