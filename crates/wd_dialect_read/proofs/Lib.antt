pub mod ListFacts
pub mod StatementFacts
