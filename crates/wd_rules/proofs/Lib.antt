pub mod Refused
pub mod Traces
pub mod Valid
pub mod Kept
pub mod Settled
pub mod Sound
pub mod Lists
pub mod Listed
