pub mod Refusals
pub mod Order
pub mod Index
pub mod Adding
pub mod Finding
pub mod Tallying
pub mod inner
