pub mod FrontFacts
