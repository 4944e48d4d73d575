pub mod Refusals
pub mod Numerals
pub mod Values
pub mod Writing
pub mod Results
pub mod inner
pub mod Promises
pub mod Examples
