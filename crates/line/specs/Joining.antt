-- Addenda and joining (rules A1 to A3).
-- Assumes nothing.
use Rattle.std.specs.Prelude.{Bool, true, false, ◌&&◌, List, [], ◌∷◌, ◌++◌, ℕ, eqb, drop}

-- `A`
abbrev pub letter_a : ℕ
letter_a = 65

-- whether a line is an addendum (A1): its first byte is `A`, its second the field separator
unfoldable pub addendum : ℕ → List ℕ → Bool
addendum separator [] = false
addendum separator (a ∷ []) = false
addendum separator (a ∷ b ∷ t) = eqb a letter_a && eqb b separator

-- what the addenda at the head of some lines carry to the segment before them, one after the other (A1)
unfoldable pub carried : ℕ → List (List ℕ) → List ℕ
carried separator [] = []
carried separator (l ∷ ls) = elim (addendum separator l) [ true ↦ drop 2 l ++ carried separator ls | false ↦ [] ]

-- the joined segments: each line that is no addendum begins one (A2), and what is carried behind it belongs to it (A3)
unfoldable pub joined : ℕ → List (List ℕ) → List (List ℕ)
joined separator [] = []
joined separator (l ∷ ls) =
    elim (addendum separator l) [ true ↦ joined separator ls | false ↦ (l ++ carried separator ls) ∷ joined separator ls ]
