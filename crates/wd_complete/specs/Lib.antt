pub mod Plain
pub mod Laws
pub mod Queries
pub mod QueryLaws
pub mod Examples
