pub mod Meaning
pub mod Texts
pub mod Laws
