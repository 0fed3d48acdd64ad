pub mod Naming
pub mod Chains
pub mod Rolled
pub mod Lists
pub mod Typing
pub mod Rebased
pub mod TypedOperands
pub mod OverColumns
pub mod TypedCalls
pub mod TypedWindows
pub mod Equal
pub mod TypedTrees
pub mod TypedPlain
mod GroupCalls
mod OverCalls
