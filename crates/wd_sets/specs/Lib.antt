pub mod Sets
pub mod Reaches
