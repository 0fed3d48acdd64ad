pub mod Tokens
pub mod Cursor
pub mod Given
