-- What holds of every element of a list.
-- Assumes nothing.
use Rattle.std.specs.Prelude.{List, [], ◌∷◌}

-- that P holds of each element: of none, and of one more
pub data All {ℓ ℓ'} {A : Type ℓ} (P : A → Type ℓ') : List A → Type (ℓ ⊔ ℓ') where
  none : All P []
  also : {a : A} {s : List A} → P a → All P s → All P (a ∷ s)
