pub mod Escaping
pub mod Joining
pub mod Naming
