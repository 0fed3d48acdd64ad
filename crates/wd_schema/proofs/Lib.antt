pub mod MeetsFacts
pub mod TextFacts
pub mod SchemaFacts
pub mod RefusalFacts
pub mod CheckFacts
pub mod WellFormedFacts
