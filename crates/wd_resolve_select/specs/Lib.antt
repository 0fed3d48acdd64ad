pub mod Sorting
pub mod RowLimits
pub mod Steps
