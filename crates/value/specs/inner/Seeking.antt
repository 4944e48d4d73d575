-- What the search for an order's numeric results asks of a table, and what it puts.
-- Assumes nothing.
use Rattle.std.specs.Prelude.{Bool, Option, List, [], ◌∷◌, map, ◌≡◌, ℕ, suc, ◌+◌, ◌-◌, ◌*◌, ◌≤◌, ◌<◌, ℤ, length, slice_get}
use Rattle.std.proofs.lemmas.List.Edits.{sets}
use Rattle.laws.specs.Tables.{passing}
use Rattle.table.specs.Lent.{Lent}
use Rattle.table.specs.Rows.{leaf_row_size, kind_in, owner_in, start_in, length_in}
use Rattle.tested.specs.inner.Searchable.{Searchable}
use Rattle.look.specs.Looking.{result_kind}
use Rattle.value.specs.declared.reading.Value.{Value}
use Rattle.value.specs.Refusals.{not_a_number}
use Rattle.value.specs.Numerals.{Numeral, says_none, numeral_of}
use Rattle.value.specs.Results.{value_field, of_field, leaf_text_in, numeric_rows, values_of}

-- the first number from one on and before another that passes a test
abbrev pub first_passing : (ℕ → Bool) → (from to : ℕ) → Option ℕ
first_passing test from to = slice_get (passing test from (to - from)) 0

-- what the leaves of field 10.6 say, and the value of a row, with the sign and the digits still apart
unfoldable pub leaf_says : (most : ℕ) → Lent → List ℕ → Numeral
leaf_says most t [] = says_none not_a_number
leaf_says most t (i ∷ []) = numeral_of most (leaf_text_in t.leaf_rows t.text i)
leaf_says most t (i ∷ j ∷ rows) = says_none not_a_number

unfoldable pub result_of : (most : ℕ) → Lent → ℕ → Numeral
result_of most t i = leaf_says most t (passing (of_field t.leaf_rows (suc i) value_field) 0 t.card.leaves)

-- segment row i, counted from 0, of a table that may be searched
pub record ResultRow (t : Lent) (i : ℕ) : Type 0 where
  pub table : Searchable t
  pub counts : i < t.card.segments

-- leaf rows from one on and before another, all within the buffer
pub record FieldRows (leaves : List ℕ) (from to : ℕ) : Type 0 where
  pub rising : from ≤ to
  pub within : to * leaf_row_size ≤ length leaves

-- leaf row i lies within the buffer, and its text within the text
pub record LeafRow (leaves text : List ℕ) (i : ℕ) : Type 0 where
  pub row_within : suc i * leaf_row_size ≤ length leaves
  pub text-within : start_in leaves i + length_in leaves i ≤ length text

-- what is owned by an order lies behind it and together: a row's owner stands before it; and once a row behind the order belongs to an earlier one,
-- no OBX is the order's any more
pub record Together (t : Lent) (order : ℕ) : Type 0 where
  pub earlier : (i : ℕ) → i < t.card.segments → owner_in t.segment_rows i ≤ i
  pub ends : (j k : ℕ) → order ≤ j → j ≤ k → k < t.card.segments → owner_in t.segment_rows j < order
      → kind_in t.segment_rows k ≡ result_kind → owner_in t.segment_rows k ≡ order → ⊥

-- an order of such a table
pub record OrderRows (t : Lent) (order : ℕ) : Type 0 where
  pub table : Searchable t
  pub together : Together t order
  pub first : 1 ≤ order
  pub counts : order ≤ t.card.segments

-- the rows of an order from one behind it on
pub record InOrder (t : Lent) (order from : ℕ) : Type 0 where
  pub rows : OrderRows t order
  pub behind : order ≤ from
  pub within : from ≤ t.card.segments

-- an order with room for all its answers
pub record Roomy (t : Lent) (order : ℕ) (numbers : List ℕ) (wholes : List ℤ) (decimals : List ℕ) : Type 0 where
  pub rows : OrderRows t order
  pub numbers_hold : length (numeric_rows t order) ≤ length numbers
  pub wholes_hold : length (numeric_rows t order) ≤ length wholes
  pub decimals_hold : length (numeric_rows t order) ≤ length decimals

-- the answers of an order's results at the front of three buffers, and how many they are
pub record PutValues (most : ℕ) (t : Lent) (order : ℕ) (numbers : List ℕ) (wholes : List ℤ) (decimals : List ℕ) (r : ℕ)
    (numbers' : List ℕ) (wholes' : List ℤ) (decimals' : List ℕ) : Type 0 where
  pub counted : r ≡ length (numeric_rows t order)
  pub numbers-put : numbers' ≡ sets numbers 0 (map (λ (v : Value). v.number) (values_of most t order))
  pub wholes_put : wholes' ≡ sets wholes 0 (map (λ (v : Value). v.whole) (values_of most t order))
  pub decimals-put : decimals' ≡ sets decimals 0 (map (λ (v : Value). v.decimals) (values_of most t order))
