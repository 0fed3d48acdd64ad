pub mod Decimals
pub mod Given
pub mod Items
pub mod Literals
pub mod Numbered
pub mod Seen
pub mod Sides
