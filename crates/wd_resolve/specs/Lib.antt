pub mod Widths
pub mod Selected
pub mod ReadLists
pub mod Lowering
pub mod Answers
pub mod Laws
