pub mod Cases
pub mod Mapped
pub mod Walked
