pub mod Writing
pub mod Answer
pub mod Wrote
pub mod inner
