pub mod Gathered
pub mod Groups
pub mod Numbered
pub mod Pairs
pub mod Sets
