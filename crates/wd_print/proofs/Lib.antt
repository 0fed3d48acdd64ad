pub mod TerminalFacts
pub mod DoubledFacts
pub mod NumberFacts
pub mod PrintedFacts
