-- What a pass sees of a line, by the classes of its bytes: how far it goes, and how many separators it has.
-- Assumes nothing.
use Rattle.std.specs.Prelude.{true, false, List, [], ◌∷◌, ℕ, suc, eqb, get_or}

-- how many bytes there are before the first of class 5
unfoldable pub run : List ℕ → List ℕ → ℕ
run class [] = 0
run class (b ∷ s) = elim (eqb (get_or class b 0) 5) [ true ↦ 0 | false ↦ suc (run class s) ]

-- how many of those are no text
unfoldable pub marks : List ℕ → List ℕ → ℕ
marks class [] = 0
marks class (b ∷ s) =
    elim (eqb (get_or class b 0) 5) [
      | true ↦ 0
      | false ↦ elim (eqb (get_or class b 0) 0) [ true ↦ marks class s | false ↦ suc (marks class s) ]
    ]

-- how many bytes of text there are before the first that is none
unfoldable pub plain_run : List ℕ → List ℕ → ℕ
plain_run class [] = 0
plain_run class (b ∷ s) = elim (eqb (get_or class b 0) 0) [ true ↦ suc (plain_run class s) | false ↦ 0 ]
