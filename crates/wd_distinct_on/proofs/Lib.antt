pub mod ListFacts
pub mod TokenFacts
pub mod BelowFacts
pub mod WriteFacts
