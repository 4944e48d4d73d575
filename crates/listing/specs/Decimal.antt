-- Numbers as they are printed.
-- Assumes nothing.
use Rattle.std.specs.Prelude.{true, false, List, [], ◌∷◌, ◌++◌, ℕ, zero, suc, ◌+◌, ◌/◌, ◌%◌, ltb}

-- the digits of a number, the last one and before it those of a tenth; `more` bounds how many stand before
unfoldable pub digits_within : ℕ → ℕ → List ℕ
digits_within zero n = (48 + n) ∷ []
digits_within (suc more) n = elim (ltb n 10) [ true ↦ (48 + n) ∷ [] | false ↦ digits_within more (n / 10) ++ ((48 + n % 10) ∷ []) ]

-- a number in decimal, without leading zeros: no number has more digits than it counts, and 0 has one
unfoldable pub decimal : ℕ → List ℕ
decimal n = digits_within n n
