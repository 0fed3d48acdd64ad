pub mod RowOrder
pub mod RowsAt
pub mod Agreeing
pub mod Verdicts
pub mod Numbering
