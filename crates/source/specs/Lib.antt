pub mod Places
pub mod Positions
pub mod Promises
pub mod inner
