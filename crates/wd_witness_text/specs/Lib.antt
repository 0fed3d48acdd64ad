pub mod Witnesses
pub mod Json
pub mod Refusals
pub mod Reading
pub mod Slots
pub mod Laws
pub mod Examples
