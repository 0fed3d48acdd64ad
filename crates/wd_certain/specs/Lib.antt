pub mod Certain
pub mod Laws
