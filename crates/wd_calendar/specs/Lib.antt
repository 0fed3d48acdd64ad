pub mod Calendar
pub mod Characters
pub mod Dates
pub mod Examples
pub mod Given
pub mod Times
