pub mod Along
pub mod Moves
pub mod Room
