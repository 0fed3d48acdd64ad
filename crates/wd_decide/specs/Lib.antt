pub mod Verdicts
pub mod Laws
pub mod Lists
