pub mod Locks
pub mod Laws
