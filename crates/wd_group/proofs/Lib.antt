pub mod Sets
pub mod First
pub mod Calls
pub mod Masks
pub mod Firsts
pub mod Listing
pub mod Numbering
pub mod Pairing
