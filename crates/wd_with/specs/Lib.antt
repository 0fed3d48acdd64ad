pub mod Places
pub mod Members
pub mod Named
pub mod Derived
pub mod Expanded
