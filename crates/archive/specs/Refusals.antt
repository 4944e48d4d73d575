-- The number that comes back for an archived table alone (rule B2).
-- Assumes nothing.
use Rattle.std.specs.Prelude.{ℕ}

-- no reader gave the table
abbrev pub never_read : ℕ
never_read = 46
