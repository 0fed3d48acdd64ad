pub mod Joining
pub mod Deciding
pub mod Holding
pub mod Agreeing
pub mod Walking
pub mod Pairing
