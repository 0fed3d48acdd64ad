pub mod Orderings
pub mod Ordered
pub mod Ties
