pub mod Unqualified
