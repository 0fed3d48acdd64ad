pub mod Plain
pub mod Inverse
