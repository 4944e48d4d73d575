-- Beside the meaning: models of loops, and what functions ask of each other. Where a contract of a public function names one of these, a
-- theorem says what it means.
pub mod Back
pub mod BySegment
pub mod Classes
pub mod Columns
pub mod Filed
pub mod Fitting
pub mod Flat
pub mod OnePass
pub mod RowTests
pub mod Sound
