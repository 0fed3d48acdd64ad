pub mod LeftFacts
