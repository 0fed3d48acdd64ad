pub mod Causes
pub mod BoundExpressions
pub mod Operands
pub mod Mappings
