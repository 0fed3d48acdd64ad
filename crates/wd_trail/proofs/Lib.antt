pub mod Giving
pub mod Trails
pub mod Windows
pub mod ByPeers
pub mod Told
