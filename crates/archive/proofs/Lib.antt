pub mod OwnedRows
pub mod CountedRows
pub mod OtherLevels
pub mod Outcomes
pub mod WidenedTables
pub mod Promises
pub mod ShutOut
