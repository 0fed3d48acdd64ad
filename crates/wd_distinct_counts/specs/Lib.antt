pub mod Counts
pub mod Pieces
pub mod Written
pub mod Respelled
pub mod Named
pub mod Examples
