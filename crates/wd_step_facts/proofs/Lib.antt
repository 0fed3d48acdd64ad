pub mod Appended
pub mod GroupsAdded
pub mod ToldApart
pub mod Added
