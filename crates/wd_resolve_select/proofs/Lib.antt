pub mod Counted
pub mod PlanKinds
pub mod RebasedExpressions
pub mod Aggregates
pub mod Grouped
pub mod Windowed
pub mod StepsFit
