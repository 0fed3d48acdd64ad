pub mod AlikeFacts
pub mod LeanTrace
pub mod Members
pub mod Once
pub mod Used
pub mod Wide
