pub mod Perms
pub mod SameLaws
pub mod OrderLaws
pub mod KeyLaws
pub mod Bags
