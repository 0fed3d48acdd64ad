pub mod Kinds
pub mod Keys
pub mod Pieces
pub mod Replaced
pub mod Written
pub mod Respelled
pub mod Named
pub mod Examples
