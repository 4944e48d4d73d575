-- Signs taken off and put on.
-- Assumes nothing.
use Rattle.std.specs.Prelude.{Bool, ℕ, ◌^◌, ℤ, pos, nat_abs}
use Rattle.std.specs.Int.Signed.{lt_z}

-- every magnitude below this has its number with either sign among those of 64 bits
abbrev pub half_range : ℕ
half_range = 2 ^ 63

-- whether a whole number has a minus, and its magnitude
unfoldable pub apart : ℤ → Bool × ℕ
apart whole = (lt_z whole (pos 0), nat_abs whole)
