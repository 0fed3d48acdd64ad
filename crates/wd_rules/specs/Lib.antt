pub mod Traces
pub mod Rules
pub mod Justified
pub mod Validity
pub mod Laws
pub mod Examples
pub mod Lists
pub mod GroupExamples
