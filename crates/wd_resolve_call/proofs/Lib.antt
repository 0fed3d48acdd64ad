mod Texts
pub mod Meanings
pub mod Prefixed
