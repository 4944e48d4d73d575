-- What the three functions on numeric results (include/sargaceu.h) answer (rules D1 to D6), and what they leave in the lent buffers.
-- Assumes nothing.
use Rattle.std.specs.Prelude.{true, false, List, [], ◌∷◌, ◌≡◌, ℕ, ltb, ℤ, pos, length}
use Rattle.form.specs.declared.limits.Limits.{Limits}
use Rattle.form.specs.Numbers.{short_buffer}
use Rattle.order.specs.Owners.{level}
use Rattle.table.specs.Lent.{Lent}
use Rattle.value.specs.declared.reading.Value.{Value}
use Rattle.value.specs.Numerals.{most_digits, says_none}
use Rattle.value.specs.Values.{with_sign, value_of}
use Rattle.value.specs.Writing.{Spelling, refuses_value, spelling, spelling_told, output_with}
use Rattle.value.specs.Results.{Results, refuses_values, results, results_told, numbers_after, wholes_after, decimals_after}
use Rattle.abi.specs.Putting.{put_all}

-- the value of a text; 1, whatever the text is, where two numbers do not fit the answer
unfoldable pub value_outcome : List ℕ → (answer : List ℤ) → Value
value_outcome text answer = elim (ltb (length answer) 2) [ true ↦ with_sign (says_none short_buffer) | false ↦ value_of most_digits text ]

-- a value, told by its number, with whole number and decimals put into the answer
pub record TellsValue (v : Value) (answer : List ℤ) (r : ℕ) (answer' : List ℤ) : Type 0 where
  pub number : r ≡ v.number
  pub answers : answer' ≡ put_all answer (v.whole ∷ pos v.decimals ∷ [])

-- the contract of `sargaceu_read_value`
abbrev pub ReadValueInto : List ℕ → (answer : List ℤ) → ℕ → (answer' : List ℤ) → Type 0
ReadValueInto text answer r answer' = TellsValue (value_outcome text answer) answer r answer'

-- the outcome of writing a value; 1, whatever value and output are, where a number does not fit the answer
unfoldable pub spelling_outcome : ℤ → ℕ → (output answer : List ℕ) → Spelling
spelling_outcome whole decimals output answer =
    elim (ltb (length answer) 1) [
      | true ↦ refuses_value short_buffer
      | false ↦ spelling most_digits whole decimals (length output)
    ]

-- such an outcome, told by its number, with the bytes put into the answer and the text into the output
pub record TellsSpelling (s : Spelling) (output answer : List ℕ) (r : ℕ) (output' answer' : List ℕ) : Type 0 where
  pub number : r ≡ (spelling_told s).number
  pub answers : answer' ≡ put_all answer ((spelling_told s).bytes ∷ [])
  pub text : output' ≡ output_with output s

-- the contract of `sargaceu_write_value`
abbrev pub WroteValueInto : ℤ → ℕ → (output answer : List ℕ) → ℕ → (output' answer' : List ℕ) → Type 0
WroteValueInto whole decimals output answer r output' answer' =
    TellsSpelling (spelling_outcome whole decimals output answer) output answer r output' answer'

-- the outcome for an order of a table within limits; 1, whatever table and row are, where two numbers do not fit the answer
unfoldable pub results_outcome : Limits → Lent → (order : ℕ) → (numbers : List ℕ) (wholes : List ℤ) (decimals answer : List ℕ) → Results
results_outcome L t order numbers wholes decimals answer =
    elim (ltb (length answer) 2) [
      | true ↦ refuses_values short_buffer
      | false ↦ results L level most_digits t order (length numbers) (length wholes) (length decimals)
    ]

-- such an outcome, told by its number, with place and count put into the answer and the values into their buffers
pub record TellsResults (w : Results) (numbers : List ℕ) (wholes : List ℤ) (decimals answer : List ℕ) (r : ℕ)
    (numbers' : List ℕ) (wholes' : List ℤ) (decimals' answer' : List ℕ) : Type 0 where
  pub number : r ≡ (results_told w).number
  pub answers : answer' ≡ put_all answer ((results_told w).place ∷ (results_told w).count ∷ [])
  pub numbers-put : numbers' ≡ numbers_after numbers w
  pub wholes_put : wholes' ≡ wholes_after wholes w
  pub decimals-put : decimals' ≡ decimals_after decimals w

-- the contract of `sargaceu_order_values`
abbrev pub ReadValuesInto : Limits → Lent → (order : ℕ) → (numbers : List ℕ) (wholes : List ℤ) (decimals answer : List ℕ) → ℕ
    → (numbers' : List ℕ) (wholes' : List ℤ) (decimals' answer' : List ℕ) → Type 0
ReadValuesInto L t order numbers wholes decimals answer r numbers' wholes' decimals' answer' =
    TellsResults (results_outcome L t order numbers wholes decimals answer) numbers wholes decimals answer r numbers' wholes' decimals' answer'
