pub mod Examples
pub mod Given
pub mod Nests
pub mod Opened
pub mod Operands
pub mod Parts
