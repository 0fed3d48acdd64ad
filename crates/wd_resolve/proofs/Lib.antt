pub mod Beside
mod SomeKeys
mod Known
mod More
pub mod SortedShown
pub mod ShownFits
pub mod FromFits
pub mod Ordered
