-- The numeric results of an order (rule D6): which rows they are, what each says, and what comes back for all.
-- Assumes nothing.
use Rattle.std.specs.Prelude.{Bool, true, false, ◌&&◌, List, [], ◌∷◌, map, ◌≡◌, ℕ, suc, min, leb, eqb, ℤ, length, get_or, take, drop}
use Rattle.std.proofs.lemmas.List.Edits.{sets}
use Rattle.laws.specs.Tables.{passing}
use Rattle.laws.specs.Texts.{bytes}
use Rattle.form.specs.declared.limits.Limits.{Limits}
use Rattle.form.specs.Numbers.{no_table_number}
use Rattle.table.specs.Lent.{Lent}
use Rattle.table.specs.Rows.{place_in, start_in, length_in}
use Rattle.write.specs.inner.ReadsBack.{is_table}
use Rattle.look.specs.declared.leaf.Place.{Place}
use Rattle.look.specs.Looking.{result_kind, leaf_named, says_text, has_kind_and_owner, order_at}
use Rattle.look.specs.inner.Searching.{sought_in}
use Rattle.value.specs.declared.reading.Value.{Value}
use Rattle.value.specs.declared.results.ValuesRead.{ValuesRead}
use Rattle.value.specs.Refusals.{not_a_number, not_an_order, little_room}
use Rattle.value.specs.Numerals.{says_none}
use Rattle.value.specs.Values.{with_sign, value_of}

-- the fields of a result that have its type and its value, 10.3 and 10.6 (S5)
abbrev pub type_field : ℕ
type_field = 3

abbrev pub value_field : ℕ
value_field = 6

-- the type of numeric results
unfoldable pub numeric_type : List ℕ
numeric_type = bytes "NM"

-- the place of leaf 10.3 of segment row i, counted from 0 (S5)
unfoldable pub type_place : ℕ → Place
type_place i = leaf_named (suc i) type_field 1

-- whether segment row i, counted from 0, is a numeric result of the order in a row counted from 1: an OBX that the row owns, whose leaf 10.3 is NM
unfoldable pub is_numeric : Lent → (order : ℕ) → ℕ → Bool
is_numeric t order i = has_kind_and_owner t.segment_rows result_kind order i && says_text t.text numeric_type (sought_in t (type_place i))

-- all of them, in the order of the rows
abbrev pub numeric_rows : Lent → (order : ℕ) → List ℕ
numeric_rows t order = passing (is_numeric t order) 0 t.card.segments

-- whether leaf row i, counted from 0, is a leaf of a field of a segment: by the first two numbers of its place (S5)
unfoldable pub of_field : List ℕ → (segment field : ℕ) → ℕ → Bool
of_field rows segment field i = eqb (get_or (place_in rows i) 0 0) segment && eqb (get_or (place_in rows i) 1 0) field

-- the text of leaf row i (T3, T4)
abbrev pub leaf_text_in : (leaf_rows text : List ℕ) → ℕ → List ℕ
leaf_text_in rows text i = take (length_in rows i) (drop (start_in rows i) text)

-- no value, where there is no number
abbrev pub no_number : Value
no_number = with_sign (says_none not_a_number)

-- the value of a field's leaves, by their rows: that of the one leaf's text; none and several have no number
unfoldable pub one_leaf : (most : ℕ) → Lent → List ℕ → Value
one_leaf most t [] = no_number
one_leaf most t (i ∷ []) = value_of most (leaf_text_in t.leaf_rows t.text i)
one_leaf most t (i ∷ j ∷ rows) = no_number

-- the value of segment row i, counted from 0: by its field 10.6
unfoldable pub value_at : (most : ℕ) → Lent → ℕ → Value
value_at most t i = one_leaf most t (passing (of_field t.leaf_rows (suc i) value_field) 0 t.card.leaves)

-- the answers for an order's results
abbrev pub values_of : (most : ℕ) → Lent → (order : ℕ) → List Value
values_of most t order = map (value_at most t) (numeric_rows t order)

-- the outcome for an order: refused with a number, or the answers
pub data Results : Type 0 where
  refuses_values : (number : ℕ) → Results
  gives : (values : List Value) → Results

-- how many answers have room in three buffers of these lengths: as many as in the shortest
abbrev pub answers_room : (numbers wholes decimals : ℕ) → ℕ
answers_room numbers wholes decimals = min (min numbers wholes) decimals

-- the table is tested first, for 13, then the row, for 24, then the room, for 25 (D6)
unfoldable pub results : Limits → (ℕ → ℕ → ℕ) → (most : ℕ) → Lent → (order : ℕ) → (numbers wholes decimals : ℕ) → Results
results L levels most t order numbers wholes decimals =
    elim (is_table L levels t) [
      | true ↦
          elim (order_at t order) [
            | true ↦
                elim (leb (length (numeric_rows t order)) (answers_room numbers wholes decimals)) [
                  | true ↦ gives (values_of most t order)
                  | false ↦ refuses_values little_room
                ]
            | false ↦ refuses_values not_an_order
          ]
      | false ↦ refuses_values no_table_number
    ]

-- what comes back: the number, the place 0, and how many answers there are
unfoldable pub results_told : Results → ValuesRead
results_told (refuses_values number) = record { number = number; place = 0; count = 0 }
results_told (gives values) = record { number = 0; place = 0; count = length values }

-- the three parts of the answers at the front of three buffers; on a refusal these are as they were
unfoldable pub numbers_after : List ℕ → Results → List ℕ
numbers_after numbers (refuses_values number) = numbers
numbers_after numbers (gives values) = sets numbers 0 (map (λ (v : Value). v.number) values)

unfoldable pub wholes_after : List ℤ → Results → List ℤ
wholes_after wholes (refuses_values number) = wholes
wholes_after wholes (gives values) = sets wholes 0 (map (λ (v : Value). v.whole) values)

unfoldable pub decimals_after : List ℕ → Results → List ℕ
decimals_after decimals (refuses_values number) = decimals
decimals_after decimals (gives values) = sets decimals 0 (map (λ (v : Value). v.decimals) values)

-- an outcome for an order, answered and put into the buffers
pub record GivesResults (w : Results) (numbers : List ℕ) (wholes : List ℤ) (decimals : List ℕ) (r : ValuesRead)
    (numbers' : List ℕ) (wholes' : List ℤ) (decimals' : List ℕ) : Type 0 where
  pub answers : r ≡ results_told w
  pub numbers-put : numbers' ≡ numbers_after numbers w
  pub wholes_put : wholes' ≡ wholes_after wholes w
  pub decimals-put : decimals' ≡ decimals_after decimals w

-- the contract of the values of an order
abbrev pub ReadValues : Limits → (ℕ → ℕ → ℕ) → (most : ℕ) → Lent → (order : ℕ) → (numbers : List ℕ) (wholes : List ℤ) (decimals : List ℕ)
    → ValuesRead → (numbers' : List ℕ) (wholes' : List ℤ) (decimals' : List ℕ) → Type 0
ReadValues L levels most t order numbers wholes decimals r numbers' wholes' decimals' =
    GivesResults (results L levels most t order (length numbers) (length wholes) (length decimals)) numbers wholes decimals r numbers' wholes' decimals'
