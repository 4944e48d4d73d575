-- Names as code has them: a length and the first three letters.
-- Assumes nothing.
use Rattle.std.specs.Prelude.{true, false, cond, List, [], ◌∷◌, ℕ, ◌+◌, ltb, eqb, length, get_or, take}
use Rattle.form.specs.declared.letters.Letters.{Letters}
use Rattle.form.specs.declared.letters.Spelled.{Spelled}

-- a text of which so much is known: 0 stands for all that follows the third letter, since no name has a fourth
abbrev pub name_by : ℕ → ℕ → ℕ → ℕ → List ℕ
name_by n a b c = take n (a ∷ b ∷ c ∷ 0 ∷ [])

-- the same of letters that are held together
abbrev pub name_in : Letters → List ℕ
name_in l = name_by l.length l.first l.second l.third

-- what has to be known of a text: 0 for a letter that it has not
abbrev pub letters_of : List ℕ → Letters
letters_of t = record { length = length t; first = get_or t 0 0; second = get_or t 1 0; third = get_or t 2 0 }

-- and what is put out of it
abbrev pub spelled : List ℕ → Spelled
spelled t = record { 0 = length t; 1 = get_or t 0 0 ∷ get_or t 1 0 ∷ get_or t 2 0 ∷ [] }

-- the letters of a name with one more letter: a fourth is counted, and no later one
unfoldable pub with_letter : Letters → ℕ → Letters
with_letter l b =
    elim (ltb l.length 3) [
      | true ↦
          record {
            length = l.length + 1;
            first = cond (eqb l.length 0) b l.first;
            second = cond (eqb l.length 1) b l.second;
            third = cond (eqb l.length 2) b l.third;
          }
      | false ↦ record { length = 4; first = l.first; second = l.second; third = l.third }
    ]
