pub mod Amounts
pub mod Numerals
pub mod Tokens
pub mod Units
