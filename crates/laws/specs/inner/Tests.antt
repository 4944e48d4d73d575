-- A test of all numbers below a bound, computed once as one Boolean.
-- Assumes nothing.
use Rattle.std.specs.Prelude.{Bool, true, false, ℕ, zero, suc}

-- whether f holds at every number from i on, n numbers in all
unfoldable pub every_from : (ℕ → Bool) → ℕ → ℕ → Bool
every_from f i zero = true
every_from f i (suc n) = elim (f i) [ true ↦ every_from f (suc i) n | false ↦ false ]

-- whether f holds at every number below n
abbrev pub below : ℕ → (ℕ → Bool) → Bool
below n f = every_from f 0 n
