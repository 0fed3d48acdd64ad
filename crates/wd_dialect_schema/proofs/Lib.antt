pub mod NameFacts
pub mod CauseFacts
pub mod LawFacts
