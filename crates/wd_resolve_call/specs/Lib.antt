pub mod Rows
pub mod Windows
pub mod Calls
pub mod References
pub mod Functions
pub mod FunctionCode
