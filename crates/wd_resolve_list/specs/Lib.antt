pub mod SelectLists
pub mod Outputs
pub mod Grouping
