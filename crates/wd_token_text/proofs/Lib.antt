pub mod SpellableFacts
pub mod WrittenFacts
