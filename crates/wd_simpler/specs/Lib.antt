pub mod Keyed
pub mod Numbers
pub mod OwnPlace
pub mod Simpler
pub mod Laws
pub mod Sets
