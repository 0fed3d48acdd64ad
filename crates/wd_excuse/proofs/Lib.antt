pub mod Fronts
pub mod Trims
pub mod Walk
pub mod OneRemark
