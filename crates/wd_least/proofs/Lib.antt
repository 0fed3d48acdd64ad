pub mod Analysed
pub mod Trying
