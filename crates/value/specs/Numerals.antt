-- The text of a number (rule D1), and what it says (D2, D3): a sign, a magnitude and a count of decimals.
-- Assumes nothing.
use Rattle.std.specs.Prelude.{Bool, true, false, ◌&&◌, ◌||◌, List, [], ◌∷◌, ◌++◌, ◌≡◌, ℕ, ◌+◌, ◌*◌, ◌-◌, ◌≤◌, leb, ltb, eqb, length, get_or}
use Rattle.laws.specs.Lists.{concat}
use Rattle.table.specs.Leaves.{split}
use Rattle.value.specs.Refusals.{not_a_number, many_digits}

-- how many digits a number has at most
abbrev pub most_digits : ℕ
most_digits = 15

-- the bytes of a number besides its digits: the two signs and the point
abbrev pub plus : ℕ
plus = 43

abbrev pub minus : ℕ
minus = 45

abbrev pub point : ℕ
point = 46

-- whether a byte is a digit, 0 to 9; whether a text has digits alone
unfoldable pub is_digit : ℕ → Bool
is_digit b = leb 48 b && leb b 57

unfoldable pub all_digits : List ℕ → Bool
all_digits [] = true
all_digits (b ∷ s) = is_digit b && all_digits s

-- what stands behind the sign, where a text begins with one; whether it begins with a minus
unfoldable pub unsigned_text : List ℕ → List ℕ
unsigned_text [] = []
unsigned_text (b ∷ s) = elim (eqb b plus || eqb b minus) [ true ↦ s | false ↦ b ∷ s ]

unfoldable pub is_negative : List ℕ → Bool
is_negative text = eqb (get_or text 0 0) minus

-- whether the parts of a text between points are those of a number: digits, one at least; or digits, be they none, and behind the point
-- digits, one at least
unfoldable pub are_number : List (List ℕ) → Bool
are_number [] = false
are_number (whole ∷ []) = all_digits whole && ltb 0 (length whole)
are_number (whole ∷ decimals ∷ []) = all_digits whole && all_digits decimals && ltb 0 (length decimals)
are_number (whole ∷ decimals ∷ more ∷ parts) = false

-- a sign or none, and whether it is a minus
pub data SignIs : List ℕ → Bool → Type 0 where
  no_sign : SignIs [] false
  a_plus : SignIs (plus ∷ []) false
  a_minus : SignIs (minus ∷ []) true

-- the decimals with their point in front, and nothing where there are none
unfoldable pub behind_point : List ℕ → List ℕ
behind_point [] = []
behind_point (b ∷ s) = point ∷ b ∷ s

-- a number's text as a shape (D1): a sign or none, digits, and a point and digits or nothing; one digit at least
pub record NumberText (text : List ℕ) : Type 0 where
  pub sign : List ℕ
  pub negative : Bool
  pub sign_is : SignIs sign negative
  pub whole : List ℕ
  pub decimals : List ℕ
  pub whole_digits : all_digits whole ≡ true
  pub decimal_digits : all_digits decimals ≡ true
  pub some_digit : 1 ≤ length whole + length decimals
  pub shape : text ≡ sign ++ (whole ++ behind_point decimals)

-- the number that digits make behind one made before them
unfoldable pub made_by : ℕ → List ℕ → ℕ
made_by before [] = before
made_by before (b ∷ s) = made_by (before * 10 + (b - 48)) s

-- a number as its text says it: 0, or why the text says none; whether a minus stands in front; the
-- number that all its digits make; how many of them stand behind the point. Beside a refusal the
-- others are false and 0
pub record Numeral : Type 0 where
  pub number : ℕ
  pub negative : Bool
  pub magnitude : ℕ
  pub decimals : ℕ

-- no number, and why
abbrev pub says_none : ℕ → Numeral
says_none number = record { number = number; negative = false; magnitude = 0; decimals = 0 }

-- what the parts of a text say behind a sign: all digits count, zeros in front too
unfoldable pub said_by : (most : ℕ) → Bool → List (List ℕ) → Numeral
said_by most negative parts =
    elim (are_number parts) [
      | true ↦
          elim (ltb most (length (concat parts))) [
            | true ↦ says_none many_digits
            | false ↦ record { number = 0; negative = negative; magnitude = made_by 0 (concat parts); decimals = length (get_or parts 1 []) }
          ]
      | false ↦ says_none not_a_number
    ]

-- what a text says
unfoldable pub numeral_of : (most : ℕ) → List ℕ → Numeral
numeral_of most text = said_by most (is_negative text) (split point (unsigned_text text))
