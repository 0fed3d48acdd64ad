pub mod LinkFacts
pub mod Opened
pub mod Worked
