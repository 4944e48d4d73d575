-- Beside the meaning: how a row is judged, and what functions ask of each other.
pub mod Rows
pub mod Codes
pub mod Counting
