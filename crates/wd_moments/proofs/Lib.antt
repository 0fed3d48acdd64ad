pub mod AddFacts
pub mod DecimalFacts
pub mod StepFacts
