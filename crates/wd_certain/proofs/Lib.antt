pub mod HasOne
pub mod Uncertain
