pub mod ConjunctFacts
pub mod Worked
