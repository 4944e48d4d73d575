-- Beside the meaning: models of loops, and what functions ask of each other. Where a contract of a public function names one of these, a
-- theorem says what it means.
pub mod Followers
pub mod Levels
pub mod Owning
pub mod Place
pub mod Refusing
pub mod Telling
