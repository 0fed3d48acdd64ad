pub mod Results
pub mod Tables
pub mod Relation
pub mod Held
pub mod Taken
pub mod Marked
pub mod Selected
pub mod Sides
