-- The version of the archive (include/sargaceu.h): the first had rows of 16 bits and one form, the second no index.
-- Assumes nothing.
use Rattle.std.specs.Prelude.{ℕ}

abbrev pub version : ℕ
version = 3
