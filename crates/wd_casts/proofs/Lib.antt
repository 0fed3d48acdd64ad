pub mod CastFacts
pub mod GrowFacts
pub mod KnownFacts
pub mod LiteralFacts
pub mod WalkFacts
pub mod WriteFacts
