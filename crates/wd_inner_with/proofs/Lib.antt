pub mod BelowFacts
