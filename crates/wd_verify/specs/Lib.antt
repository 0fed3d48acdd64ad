pub mod Lean
pub mod Named
pub mod Shown
