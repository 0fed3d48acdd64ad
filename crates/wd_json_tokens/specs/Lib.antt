pub mod Values
pub mod Tops
pub mod Forms
pub mod Lists
pub mod Pairs
