pub mod Refusals
pub mod Widening
pub mod Promises
pub mod inner
