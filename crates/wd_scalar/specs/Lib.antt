pub mod Numbers
pub mod Arithmetic
pub mod Operands
pub mod Waiting
pub mod Views
