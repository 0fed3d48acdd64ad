pub mod ChainFacts
pub mod KnownFacts
pub mod ScanFacts
