-- Byte order (X1): how a code stands to another one.
-- Assumes nothing.
use Rattle.std.specs.Prelude.{Bool, true, false, List, [], ◌∷◌, ℕ, ltb}
use Rattle.index.specs.declared.code.Compared.{Compared}
use Rattle.index.specs.declared.code.Compared.TheVariants.{Before, Same, After}

-- by the first byte in which two codes differ; where the one begins the other, the shorter is before
unfoldable pub byte_order : List ℕ → List ℕ → Compared
byte_order [] [] = Same
byte_order [] (b ∷ t) = Before
byte_order (a ∷ s) [] = After
byte_order (a ∷ s) (b ∷ t) =
    elim (ltb a b) [ true ↦ Before | false ↦ elim (ltb b a) [ true ↦ After | false ↦ byte_order s t ] ]

-- whether the one is before the other
unfoldable pub is_before : Compared → Bool
is_before Before = true
is_before Same = false
is_before After = false

abbrev pub comes_before : List ℕ → List ℕ → Bool
comes_before s t = is_before (byte_order s t)
