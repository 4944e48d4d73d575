-- A table is the list of a function's values, as antt computes it; and the numbers that pass a test.
-- Assumes nothing.
use Rattle.std.specs.Prelude.{Bool, true, false, List, [], ◌∷◌, ℕ, zero, suc}

-- f i, f (i + 1), .., n values in all
unfoldable pub values {ℓ} : {A : Type ℓ} → (ℕ → A) → ℕ → ℕ → List A
values f i zero = []
values f i (suc n) = f i ∷ values f (suc i) n

-- those of the numbers i, i + 1, .., n of them, that pass a test, in their order
unfoldable pub passing : (ℕ → Bool) → ℕ → ℕ → List ℕ
passing test i zero = []
passing test i (suc n) = elim (test i) [ true ↦ i ∷ passing test (suc i) n | false ↦ passing test (suc i) n ]
