pub mod Scopes
pub mod Names
pub mod Places
pub mod Grouped
pub mod Resolving
pub mod Parts
pub mod Typed
pub mod Laws
