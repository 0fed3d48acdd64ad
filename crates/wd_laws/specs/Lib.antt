pub mod Laws
pub mod examples
