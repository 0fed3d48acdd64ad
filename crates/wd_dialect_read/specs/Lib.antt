pub mod Tokens
pub mod Kept
pub mod Said
pub mod Reading
