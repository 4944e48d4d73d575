-- The name in one field of a segment, gathered byte by byte as its lines come, since a name may be cut anywhere (A3).
-- Assumes nothing.
use Rattle.std.specs.Prelude.{true, false, List, [], ◌∷◌, ℕ, ◌-◌, eqb, ltb}
use Rattle.form.specs.declared.letters.Letters.{Letters}
use Rattle.form.specs.inner.Lettering.{name_in, with_letter}
use Rattle.read.specs.declared.name.Name.{Name}

-- nothing gathered yet of the field that `left` field separators end
abbrev pub fresh : ℕ → Name
fresh left = record { left = left; letters = record { length = 0; first = 0; second = 0; third = 0 } }

-- the letters given up: those past the length are not part of a name
abbrev pub emptied : Letters → Letters
emptied l = record { length = 0; first = l.first; second = l.second; third = l.third }

-- one more byte of the segment, and some more: none changes anything once the field has ended
unfoldable pub with_byte : ℕ → Name → ℕ → Name
with_byte field l b =
    elim (eqb l.left 0) [
      | true ↦ l
      | false ↦
          elim (eqb b field) [
            | true ↦
                elim (eqb l.left 1) [
                  | true ↦ record { left = 0; letters = l.letters }
                  | false ↦ record { left = l.left - 1; letters = emptied l.letters }
                ]
            | false ↦ record { left = l.left; letters = with_letter l.letters b }
          ]
    ]

unfoldable pub with_bytes : ℕ → Name → List ℕ → Name
with_bytes field l [] = l
with_bytes field l (b ∷ s) = with_bytes field (with_byte field l b) s

-- what has come of the field: nothing as long as others are to end before it
unfoldable pub gathered : Name → List ℕ
gathered l = elim (ltb 1 l.left) [ true ↦ [] | false ↦ name_in l.letters ]
