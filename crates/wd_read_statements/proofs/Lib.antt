pub mod Exactness
pub mod GrammarExact
pub mod SchemaLaws
pub mod ReaderFacts
