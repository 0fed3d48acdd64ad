pub mod Parts
pub mod Values
pub mod Answers
pub mod Sources
pub mod CallColumns
