pub mod Limits
pub mod Forms
pub mod Header
pub mod Names
pub mod Numbers
pub mod inner
