pub mod Lines
pub mod Joining
pub mod Cutting
pub mod Finding
pub mod Going
pub mod inner
