-- The shortest text of a value, made from its digits. That no text is shorter is a law.
-- Assumes nothing.
use Rattle.std.specs.Prelude.{Bool, true, false, List, [], ◌∷◌, ◌++◌, ◌≡◌, ℕ, zero, suc, ◌+◌, ◌-◌, ◌≤◌, ◌<◌, ◌^◌, max, ℤ, length}
use Rattle.std.proofs.lemmas.List.Edits.{sets}
use Rattle.value.specs.Numerals.{minus, point}
use Rattle.value.specs.inner.Digits.{tenths, last_digits, digit_count}
use Rattle.value.specs.inner.Signs.{apart}

-- how many digits are written: as many as the number has, as many as there are decimals, and one at least
unfoldable pub digits_for : (most : ℕ) → (magnitude decimals : ℕ) → ℕ
digits_for most magnitude decimals = max (max (digit_count most magnitude) decimals) 1

-- the minus in front, if any
unfoldable pub sign_text : Bool → List ℕ
sign_text negative = elim negative [ true ↦ minus ∷ [] | false ↦ [] ]

-- so many digits of a number, with a point before the decimals
unfoldable pub pointed : (digits decimals magnitude : ℕ) → List ℕ
pointed digits decimals magnitude = last_digits (digits - decimals) (tenths decimals magnitude) ++ point ∷ last_digits decimals magnitude

-- the same, and no point where there are no decimals
unfoldable pub digit_text : (digits decimals magnitude : ℕ) → List ℕ
digit_text digits zero magnitude = last_digits digits magnitude
digit_text digits (suc d) magnitude = pointed digits (suc d) magnitude

-- the text of a sign, a magnitude and a count of decimals
unfoldable pub text_for : (most : ℕ) → Bool → (magnitude decimals : ℕ) → List ℕ
text_for most negative magnitude decimals = sign_text negative ++ digit_text (digits_for most magnitude decimals) decimals magnitude

-- the text of a value
unfoldable pub shortest_text : (most : ℕ) → ℤ → ℕ → List ℕ
shortest_text most whole decimals = text_for most (apart whole).0 (apart whole).1 decimals

-- what the writing of a text asks: a number of so many digits, with so many decimals, and room for the longest
pub record Spellable (most magnitude decimals : ℕ) (output : List ℕ) : Type 0 where
  pub few : magnitude < 10 ^ most
  pub decimals-few : decimals ≤ most
  pub room : most + 2 ≤ length output

-- a text was put at the front of an output, and so many bytes it has
pub record PutText (text output : List ℕ) (r : ℕ) (output' : List ℕ) : Type 0 where
  pub bytes : r ≡ length text
  pub stored : output' ≡ sets output 0 text
