pub mod Certificates
pub mod Json
pub mod Members
pub mod Refusals
pub mod Laws
pub mod Examples
