pub mod Demands
pub mod Belonging
pub mod Counts
pub mod InFile
