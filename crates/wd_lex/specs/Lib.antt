pub mod Terminals
pub mod Characters
pub mod Pieces
pub mod Lexed
pub mod Causes
pub mod Reading
pub mod Laws
pub mod Examples
