pub mod Words
pub mod Verdicts
pub mod Plans
pub mod Marks
