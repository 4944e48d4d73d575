pub mod Leaves
pub mod Rows
pub mod OwnedRows
pub mod Reading
pub mod Examples
pub mod Lent
pub mod inner
