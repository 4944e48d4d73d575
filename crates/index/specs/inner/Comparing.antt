-- Comparing a code with one that stands at a place, by the length there and the bytes behind it: the lengths are looked at last.
-- Assumes nothing.
use Rattle.std.specs.Prelude.{true, false, List, [], ◌∷◌, ℕ, zero, suc, ltb}
use Rattle.index.specs.declared.code.Compared.{Compared}
use Rattle.index.specs.declared.code.Compared.TheVariants.{Before, Same, After}

-- a code beside the first n of some bytes
unfoldable pub compared : List ℕ → ℕ → List ℕ → Compared
compared [] zero s = Same
compared [] (suc n) s = Before
compared (a ∷ c) zero s = After
compared (a ∷ c) (suc n) [] = After
compared (a ∷ c) (suc n) (b ∷ s) =
    elim (ltb a b) [ true ↦ Before | false ↦ elim (ltb b a) [ true ↦ After | false ↦ compared c n s ] ]
