mod Found
mod Places
pub mod Products
mod Ranges
