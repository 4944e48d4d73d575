-- The numbers of refusal that the index has (X3).
-- Assumes nothing.
use Rattle.std.specs.Prelude.{ℕ}

abbrev pub long_code : ℕ
long_code = 50

abbrev pub full_index : ℕ
full_index = 51

abbrev pub full_count : ℕ
full_count = 52

abbrev pub no_index_number : ℕ
no_index_number = 53
