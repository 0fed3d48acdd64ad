pub mod Places
pub mod Laws
pub mod Bounds
pub mod Exclusions
pub mod Slides
pub mod Kept
pub mod IndexRanges
