pub mod First
pub mod Sites
