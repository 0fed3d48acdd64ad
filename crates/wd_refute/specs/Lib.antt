pub mod Refutation
pub mod Judged
pub mod Laws
pub mod Ready
pub mod Numbers
pub mod Kept
pub mod Stored
