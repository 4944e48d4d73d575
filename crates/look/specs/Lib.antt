pub mod Looking
pub mod Matches
pub mod inner
