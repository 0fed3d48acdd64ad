pub mod Eaten
pub mod Loops
mod TokenFacts
