pub mod AddFacts
pub mod EachFacts
pub mod PartFacts
pub mod PieceFacts
pub mod TerminalFacts
pub mod WalkFacts
pub mod Worked
