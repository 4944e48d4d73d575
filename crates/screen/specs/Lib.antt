pub mod Refusals
pub mod Rules
pub mod Meeting
pub mod Verdicts
pub mod inner
pub mod Promises
pub mod Examples
