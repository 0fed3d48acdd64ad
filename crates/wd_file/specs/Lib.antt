pub mod Holds
pub mod Locked
pub mod Laws
