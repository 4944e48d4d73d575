-- Kinds and contexts by name and number (rules S1 and C1).
-- Assumes nothing.
use Rattle.std.specs.Prelude.{List, [], ◌∷◌, map, ℕ, zero, suc, get_or}
use Rattle.laws.specs.Lists.{same, first_from}
use Rattle.laws.specs.Texts.{bytes}

-- the names of the twelve kinds, in the order of their numbers (S1)
unfoldable pub kind_names : List (List ℕ)
kind_names = map bytes ("H" ∷ "P" ∷ "AP" ∷ "AC" ∷ "OBR" ∷ "OBX" ∷ "FAC" ∷ "REG" ∷ "ACT" ∷ "ERR" ∷ "L" ∷ "C" ∷ [])

-- the names of the seven contexts, in the order of their numbers (C1)
unfoldable pub context_names : List (List ℕ)
context_names = map bytes ("ADM" ∷ "ORM" ∷ "ORA" ∷ "REG" ∷ "ERR" ∷ "ORU" ∷ "FAC" ∷ [])

-- the number of a text among names: its place counted from 1, or 0 where it is none of them
unfoldable pub number_among : List (List ℕ) → List ℕ → ℕ
number_among names t = first_from (same t) 1 names

-- the number of a kind's name, of a context's name
unfoldable pub kind_of : List ℕ → ℕ
kind_of t = number_among kind_names t

unfoldable pub context_of : List ℕ → ℕ
context_of t = number_among context_names t

-- the name with a number among names, counted from 1; nothing where none has it
unfoldable pub name_of : List (List ℕ) → ℕ → List ℕ
name_of names zero = []
name_of names (suc n) = get_or names n []
