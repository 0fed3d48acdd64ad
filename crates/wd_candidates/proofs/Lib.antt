pub mod Copies
pub mod Fillings
pub mod Marked
pub mod Wanted
pub mod Sources
pub mod Walks
pub mod Cells
