-- Beside the meaning: models of loops, and what functions ask of each other. Where a contract of a public function names one of these, a
-- theorem says what it means.
pub mod KnownOwners
pub mod Searchable
pub mod Lending
