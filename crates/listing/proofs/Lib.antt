pub mod Decimal
pub mod Putting
pub mod Names
pub mod RowLines
pub mod Filed
pub mod Listed
pub mod Example
pub mod OnlyOne
