pub mod Answering
pub mod Sound
pub mod Acceptance
pub mod Codes
pub mod Counting
pub mod inner
