-- How the text of a number is read: the digits that stand in a row, and the number that they make.
-- Assumes nothing.
use Rattle.std.specs.Prelude.{Bool, true, false, List, [], ◌∷◌, ℕ, ◌+◌, ◌*◌, ◌-◌, ◌^◌, ltb, eqb, length}
use Rattle.value.specs.Refusals.{not_a_number, many_digits}
use Rattle.value.specs.Numerals.{Numeral, is_digit, says_none}

-- the digits that a text begins with
unfoldable pub digit_run : List ℕ → List ℕ
digit_run [] = []
digit_run (b ∷ s) = elim (is_digit b) [ true ↦ b ∷ digit_run s | false ↦ [] ]

-- a number with one digit more, and with several; one of more than so many digits stays
unfoldable pub with_digit : (most : ℕ) → ℕ → ℕ → ℕ
with_digit most n digit = elim (ltb n (10 ^ most)) [ true ↦ n * 10 + (digit - 48) | false ↦ n ]

unfoldable pub with_digits : (most : ℕ) → ℕ → List ℕ → ℕ
with_digits most n [] = n
with_digits most n (digit ∷ s) = with_digits most (with_digit most n digit) s

-- how many digits a text begins with, and the number that they make behind one made before them
unfoldable pub run_of : (most : ℕ) → List ℕ → ℕ → ℕ × ℕ
run_of most text before = (length (digit_run text), with_digits most before (digit_run text))

-- what so many digits say, of which one at least must stand among the last
unfoldable pub judged_digits : (most : ℕ) → Bool → (digits last magnitude decimals : ℕ) → Numeral
judged_digits most negative digits last magnitude decimals =
    elim (eqb last 0) [
      | true ↦ says_none not_a_number
      | false ↦
          elim (ltb most digits) [
            | true ↦ says_none many_digits
            | false ↦ record { number = 0; negative = negative; magnitude = magnitude; decimals = decimals }
          ]
    ]
