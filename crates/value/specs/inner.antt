-- Beside the meaning: models of loops, and what functions ask of each other. Where a contract of a public function names one of these, a
-- theorem says what it means.
pub mod Digits
pub mod Runs
pub mod Seeking
pub mod Shortening
pub mod Signs
pub mod Said
