pub mod Sorting
pub mod Codes
pub mod Ranks
pub mod Known
pub mod AllCodes
pub mod Numbers
