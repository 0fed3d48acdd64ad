pub mod MeaningLaw
pub mod ForReadings
pub mod OnePlan
