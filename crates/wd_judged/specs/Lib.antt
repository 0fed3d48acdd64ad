pub mod Judgements
pub mod Heads
pub mod Mended
