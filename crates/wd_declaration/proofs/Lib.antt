pub mod ListFacts
pub mod SpelledFacts
