-- The first place at which a test held, as a pass over a message keeps it.
-- Assumes nothing.
use Rattle.std.specs.Prelude.{Bool, true, false, ℕ, eqb}

-- the first place at which a test held, 0 standing for none: an earlier one, or this place where the test holds here
unfoldable pub first_held : ℕ → Bool → ℕ → ℕ
first_held earlier holds place = elim (eqb earlier 0) [ true ↦ elim holds [ true ↦ place | false ↦ 0 ] | false ↦ earlier ]
