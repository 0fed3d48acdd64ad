pub mod Findings
pub mod Lines
pub mod Counts
pub mod Refusals
pub mod Baselines
pub mod Laws
