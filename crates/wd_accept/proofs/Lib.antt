pub mod Verdicts
pub mod Listed
