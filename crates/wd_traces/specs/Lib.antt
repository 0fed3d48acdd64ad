pub mod Known
pub mod Once
pub mod Used
