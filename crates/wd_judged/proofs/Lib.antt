pub mod Mending
pub mod Beginning
