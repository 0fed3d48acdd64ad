pub mod Written
pub mod Grammar
pub mod Reading
pub mod Laws
