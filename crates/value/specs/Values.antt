-- The value of a text (rules D2 and D3), and the shortest text of a value (D4).
-- Assumes nothing.
use Rattle.std.specs.Prelude.{Bool, true, false, List, ◌++◌, ◌≡◌, ℕ, ◌+◌, ◌≤◌, ℤ, pos, neg_ℤ, length}
use Rattle.value.specs.declared.reading.Value.{Value}
use Rattle.value.specs.Numerals.{Numeral, NumberText, made_by, numeral_of}

-- the whole number of a sign and a magnitude: a minus before 0 gives 0
unfoldable pub signed_of : Bool → ℕ → ℤ
signed_of negative magnitude = elim negative [ true ↦ neg_ℤ (pos magnitude) | false ↦ pos magnitude ]

-- what a numeral comes to with its sign put on
abbrev pub with_sign : Numeral → Value
with_sign n = record { number = n.number; whole = signed_of n.negative n.magnitude; decimals = n.decimals }

-- the value of a text (D2), or why it has none, with 0 and 0 beside it (D3)
unfoldable pub value_of : (most : ℕ) → List ℕ → Value
value_of most text = with_sign (numeral_of most text)

-- a text reads to a whole number and a count of decimals
abbrev pub ReadsTo : (most : ℕ) → ℤ → ℕ → List ℕ → Type 0
ReadsTo most whole decimals text = value_of most text ≡ record { number = 0; whole = whole; decimals = decimals }

-- how a text is spelt that reads to them: it has the shape of a number, with so many digits at most, which make the whole number behind its sign, and with as
-- many decimals
pub record Spelt (most : ℕ) (whole : ℤ) (decimals : ℕ) (text : List ℕ) : Type 0 where
  pub number : NumberText text
  pub few : length number.whole + length number.decimals ≤ most
  pub value : signed_of number.negative (made_by 0 (number.whole ++ number.decimals)) ≡ whole
  pub count : length number.decimals ≡ decimals

-- it is the shortest that does (D4): no text that reads to the same is shorter
pub record Shortest (most : ℕ) (whole : ℤ) (decimals : ℕ) (text : List ℕ) : Type 0 where
  pub reads : ReadsTo most whole decimals text
  pub least : (other : List ℕ) → ReadsTo most whole decimals other → length text ≤ length other
