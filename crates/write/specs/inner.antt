-- Beside the meaning: models of loops, and what functions ask of each other. Where a contract of a public function names one of these, a
-- theorem says what it means.
pub mod Asked
pub mod EitherOwners
pub mod Filling
pub mod Local
pub mod Message
pub mod Passing
pub mod ReadsBack
pub mod RowByRow
pub mod Tests
