pub mod Values
pub mod Order
pub mod Rows
pub mod Keys
pub mod Bags
pub mod Laws
