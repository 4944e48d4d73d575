pub mod LentRows
pub mod LentLeaves
pub mod LentOwners
pub mod PassedTables
pub mod NamedLeaves
pub mod TableLeft
