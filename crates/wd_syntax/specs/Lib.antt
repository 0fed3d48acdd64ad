pub mod Tokens
pub mod Tree
pub mod View
pub mod Spelling
pub mod Levels
pub mod Limits
pub mod Laws
