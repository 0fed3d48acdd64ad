pub mod MemberFacts
pub mod LengthFacts
