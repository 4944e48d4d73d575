-- Beside the meaning: models of loops, and what functions ask of each other. Where a contract of a public function names one of these, a
-- theorem says what it means.
pub mod Admitting
pub mod Census
pub mod Coding
pub mod Deciding
pub mod Filling
pub mod Laying
pub mod Naming
pub mod Noting
pub mod Scanning
pub mod Seeing
pub mod Segments
pub mod Starting
pub mod Surveying
pub mod Underway
