pub mod Kinds
pub mod Naturals
pub mod Written
pub mod Respelled
pub mod Named
pub mod Examples
