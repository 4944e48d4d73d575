-- The digits of a number, from the last on.
-- Assumes nothing.
use Rattle.std.specs.Prelude.{true, false, List, [], ◌∷◌, ◌++◌, ℕ, zero, suc, ◌+◌, ◌/◌, ◌%◌, eqb}

-- a number without its last k digits
unfoldable pub tenths : (k : ℕ) → ℕ → ℕ
tenths zero n = n
tenths (suc k) n = tenths k (n / 10)

-- its last k digits, with zeros in front where it has fewer
unfoldable pub last_digits : (k : ℕ) → ℕ → List ℕ
last_digits zero n = []
last_digits (suc k) n = last_digits k (n / 10) ++ ((48 + n % 10) ∷ [])

-- how many digits it has, `most` at most; 0 has none
unfoldable pub digit_count : (most : ℕ) → ℕ → ℕ
digit_count zero n = 0
digit_count (suc most) n = elim (eqb n 0) [ true ↦ 0 | false ↦ suc (digit_count most (n / 10)) ]
