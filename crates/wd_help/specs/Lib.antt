pub mod Helps
