pub mod Comparisons
pub mod Seen
pub mod Unlike
