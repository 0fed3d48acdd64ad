pub mod Counting
pub mod Reading
pub mod OneList
pub mod WrittenBack
pub mod RoundTrip
