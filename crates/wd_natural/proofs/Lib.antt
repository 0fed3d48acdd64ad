pub mod JoinFacts
pub mod Worked
