pub mod Alike
pub mod Changes
