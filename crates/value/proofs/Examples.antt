-- The worked example of an order's numbers holds of the definitions, by computation; and what it shuts out.
-- Assumes nothing.
use mathlib.Core.Path.{◌≡◌, refl, sym, ap, ◌∙◌}
use Prim.Native.Nat.{ℕ, ◌≤◌, ◌<◌}
use native.Mathlib.Omega.{arith}
use borrow.Author.Tests.{le-leb, lt-leb}
use lib.Dec.{lit≤}
use lib.IntN.{ℤ}
use lib.ListN.{length, get_or}
use lib.Seq.{sets}
use mathlib.Core.Bool.{true, false}
use mathlib.Core.List.{List, [], ◌∷◌}
use Rattle.laws.specs.Lists.{same, among, count, concat, numbered, first_from}
use Rattle.laws.specs.Texts.{bytes}
use Rattle.laws.specs.Tables.{values, passing}
use Rattle.laws.proofs.Stores.{get_or_sets_within}
use Rattle.form.specs.Forms.{small_form}
use Rattle.form.specs.Limits.{line_count, rounded_up}
use Rattle.form.specs.Header.{within, allowed, all_allowed, different, separators_of, five, splitting, sound_header, header_of}
use Rattle.form.specs.Names.{kind_names, context_names, number_among, kind_of, context_of}
use Rattle.line.specs.Lines.{inside, walk_from, walk, texts, fault_number, fault_place}
use Rattle.line.specs.Joining.{addendum, carried, joined}
use Rattle.line.specs.Cutting.{pieces, addenda, cut, cuts, unlines}
use Rattle.order.specs.Contexts.{segment, H, P, AP, AC, OBR, OBX, FAC, REG, ACT, ERR, L, orders, cover, invoices, bodies, message_shape, grammar}
use Rattle.order.specs.inner.Place.{empties, told, row_told, rows_told, row_empties, rows_empty, place_from, misplaced}
use Rattle.order.specs.Owners.{levels, level, nearest, is_c, owner, owners_after, owners}
use Rattle.table.specs.Leaves.{onto, split, leaves, segment_leaves, header_leaves, leaves_from, message_leaves, kind_of_segment, context_of_header}
use Rattle.table.specs.Rows.{segment_rows_from, leaf_rows_from, text_of, kinds_of, context_in, all_leaves, table_of}
use Rattle.table.specs.Reading.{refuse_if, refuse_at, stated, short, first_unknown, judged, of_message, reading}
use Rattle.table.specs.Lent.{within_limits, counts_fit, counted}
use Rattle.table.specs.inner.Back.{leaf_at, leaves_of, separators_at, between, unsplit_from, unsplit, segments_of, lines_of, written}
use Rattle.write.specs.inner.ReadsBack.{same_card, same_table, gives_table, reads_back, is_table}
use Rattle.look.specs.Looking.{numbers_of, fits, says_text, has_kind_and_owner, is_order, order_at}
use Rattle.look.specs.inner.Searching.{found_of, sought_from, sought_by}
use Rattle.tested.specs.inner.Lending.{lent_by, cut_short}
use Rattle.value.specs.declared.results.ValuesRead.{ValuesRead}
use Rattle.value.specs.Numerals.{most_digits, is_digit, all_digits, unsigned_text, is_negative, are_number, made_by, said_by, numeral_of}
use Rattle.value.specs.Values.{signed_of, value_of}
use Rattle.value.specs.Results.{
  numeric_type,
  type_place,
  is_numeric,
  numeric_rows,
  of_field,
  one_leaf,
  value_at,
  values_of,
  answers_room,
  refuses_values,
  gives,
  results,
  results_told,
  numbers_after,
  ReadValues,
}
use Rattle.value.specs.Examples.{sent, sent_table, first_order, second_order}
use Rattle.value.proofs.ResultsRead.{length-values, no_table, no_order, little_room_lem, all-given}

-- some message reads to its table, and to the one that is cut short none; rows 3 and 14 are its orders, and rows 0, 4 and 17 are none
pub tables_tested : (is_table small_form level sent_table ≡ true) × (is_table small_form level (cut_short sent_table) ≡ false)
unfolding same among count concat numbered first_from bytes values passing line_count rounded_up within allowed all_allowed different separators_of five splitting
    sound_header header_of kind_names context_names number_among kind_of context_of inside walk_from walk texts fault_number fault_place addendum carried
    joined pieces addenda cut cuts unlines segment H P AP AC OBR OBX FAC REG ACT ERR L orders cover invoices bodies message_shape grammar empties told
    row_told rows_told row_empties rows_empty place_from misplaced levels level nearest is_c owner owners_after owners onto split leaves segment_leaves
    header_leaves leaves_from message_leaves kind_of_segment context_of_header segment_rows_from leaf_rows_from text_of kinds_of context_in all_leaves table_of
    refuse_if refuse_at short first_unknown judged of_message reading stated within_limits counts_fit counted leaf_at leaves_of separators_at between unsplit_from
    unsplit segments_of lines_of written same_card same_table gives_table reads_back is_table numbers_of fits has_kind_and_owner is_order found_of sought_from sought_by
    is_digit all_digits unsigned_text is_negative are_number made_by said_by numeral_of signed_of value_of numeric_type type_place says_text is_numeric of_field one_leaf
    value_at sent lent_by sent_table cut_short first_order second_order
tables_tested = (refl, refl)

pub orders-tested : (order_at sent_table 3 ≡ true) × (order_at sent_table 14 ≡ true) × (order_at sent_table 0 ≡ false) × (order_at sent_table 4 ≡ false) × (order_at sent_table 17 ≡ false)
unfolding same among count concat numbered first_from bytes values passing line_count rounded_up within allowed all_allowed different separators_of five splitting
    sound_header header_of kind_names context_names number_among kind_of context_of inside walk_from walk texts fault_number fault_place addendum carried
    joined pieces addenda cut cuts unlines segment H P AP AC OBR OBX FAC REG ACT ERR L orders cover invoices bodies message_shape grammar empties told
    row_told rows_told row_empties rows_empty place_from misplaced levels level nearest is_c owner owners_after owners onto split leaves segment_leaves
    header_leaves leaves_from message_leaves kind_of_segment context_of_header segment_rows_from leaf_rows_from text_of kinds_of context_in all_leaves table_of
    refuse_if refuse_at short first_unknown judged of_message reading stated within_limits counts_fit counted leaf_at leaves_of separators_at between unsplit_from
    unsplit segments_of lines_of written same_card same_table gives_table reads_back is_table numbers_of fits has_kind_and_owner is_order found_of sought_from sought_by
    is_digit all_digits unsigned_text is_negative are_number made_by said_by numeral_of signed_of value_of numeric_type type_place says_text is_numeric of_field one_leaf
    value_at sent lent_by sent_table cut_short first_order second_order
orders-tested = (refl, refl, refl, refl, refl)

-- the values of its two orders
values_computed : (values_of most_digits sent_table 3 ≡ first_order) × (values_of most_digits sent_table 14 ≡ second_order)
unfolding same among count concat numbered first_from bytes values passing line_count rounded_up within allowed all_allowed different separators_of five splitting
    sound_header header_of kind_names context_names number_among kind_of context_of inside walk_from walk texts fault_number fault_place addendum carried
    joined pieces addenda cut cuts unlines segment H P AP AC OBR OBX FAC REG ACT ERR L orders cover invoices bodies message_shape grammar empties told
    row_told rows_told row_empties rows_empty place_from misplaced levels level nearest is_c owner owners_after owners onto split leaves segment_leaves
    header_leaves leaves_from message_leaves kind_of_segment context_of_header segment_rows_from leaf_rows_from text_of kinds_of context_in all_leaves table_of
    refuse_if refuse_at short first_unknown judged of_message reading stated within_limits counts_fit counted leaf_at leaves_of separators_at between unsplit_from
    unsplit segments_of lines_of written same_card same_table gives_table reads_back is_table numbers_of fits has_kind_and_owner is_order found_of sought_from sought_by
    is_digit all_digits unsigned_text is_negative are_number made_by said_by numeral_of signed_of value_of numeric_type type_place says_text is_numeric of_field one_leaf
    value_at sent lent_by sent_table cut_short first_order second_order
values_computed = (refl, refl)

first-length : length first_order ≡ 8
unfolding first_order
first-length = refl

second-length : length second_order ≡ 1
unfolding second_order
second-length = refl

pub results-counted : (length (numeric_rows sent_table 3) ≡ 8) × (length (numeric_rows sent_table 14) ≡ 1)
results-counted = (
  sym (length-values most_digits sent_table 3) ∙ ap length values_computed.0 ∙ first-length,
  sym (length-values most_digits sent_table 14) ∙ ap length values_computed.1 ∙ second-length,
)

-- so each order is answered with its own values, in the order of the rows, where there is room
pub first_answered : (numbers wholes decimals : ℕ) → 8 ≤ answers_room numbers wholes decimals
    → results small_form level most_digits sent_table 3 numbers wholes decimals ≡ gives first_order
first_answered numbers wholes decimals room =
    all-given small_form level most_digits sent_table 3 numbers wholes decimals tables_tested.0 orders-tested.0
    (le-leb (length (numeric_rows sent_table 3)) (answers_room numbers wholes decimals) (omega (arith, room, results-counted.0)))
    ∙ ap gives values_computed.0

pub second_answered : (numbers wholes decimals : ℕ) → 1 ≤ answers_room numbers wholes decimals
    → results small_form level most_digits sent_table 14 numbers wholes decimals ≡ gives second_order
second_answered numbers wholes decimals room =
    all-given small_form level most_digits sent_table 14 numbers wholes decimals tables_tested.0 orders-tested.1
    (le-leb (length (numeric_rows sent_table 14)) (answers_room numbers wholes decimals) (omega (arith, room, results-counted.1)))
    ∙ ap gives values_computed.1

-- and else refused: 13 before 24, 24 before 25
pub orders-refused : (numbers wholes decimals : ℕ)
    → (results small_form level most_digits (cut_short sent_table) 0 numbers wholes decimals ≡ refuses_values 13)
    × (results small_form level most_digits sent_table 0 numbers wholes decimals ≡ refuses_values 24)
    × (results small_form level most_digits sent_table 4 numbers wholes decimals ≡ refuses_values 24)
    × (results small_form level most_digits sent_table 17 numbers wholes decimals ≡ refuses_values 24)
    × (answers_room numbers wholes decimals < 8 → results small_form level most_digits sent_table 3 numbers wholes decimals ≡ refuses_values 25)
orders-refused numbers wholes decimals = (
  no_table small_form level most_digits (cut_short sent_table) 0 numbers wholes decimals tables_tested.1,
  no_order small_form level most_digits sent_table 0 numbers wholes decimals tables_tested.0 orders-tested.2,
  no_order small_form level most_digits sent_table 4 numbers wholes decimals tables_tested.0 orders-tested.3,
  no_order small_form level most_digits sent_table 17 numbers wholes decimals tables_tested.0 orders-tested.4,
  λ few.
      little_room_lem small_form level most_digits sent_table 3 numbers wholes decimals tables_tested.0 orders-tested.0
      (lt-leb (length (numeric_rows sent_table 3)) (answers_room numbers wholes decimals) (omega (arith, few, results-counted.0))),
)

-- no values of the first order that meet the contract skip a result that fails, or take two subfields, or a value sent empty, for a number
module _ {numbers numbers' : List ℕ} {wholes wholes' : List ℤ} {decimals decimals' : List ℕ} {r : ValuesRead}
    (room : 8 ≤ answers_room (length numbers) (length wholes) (length decimals))
    (read : ReadValues small_form level most_digits sent_table 3 numbers wholes decimals r numbers' wholes' decimals') where
  is : results small_form level most_digits sent_table 3 (length numbers) (length wholes) (length decimals) ≡ gives first_order
  is = first_answered (length numbers) (length wholes) (length decimals) room

  pub skips_none : r.count ≡ 8
  unfolding results_told first_order
  skips_none = ap (λ (v : ValuesRead). v.count) (read.answers ∙ ap results_told is)

  answered : numbers' ≡ sets numbers 0 (0 ∷ 20 ∷ 20 ∷ 20 ∷ 0 ∷ 20 ∷ 21 ∷ 0 ∷ [])
  unfolding numbers_after first_order
  answered = read.numbers-put ∙ ap (numbers_after numbers) is

  pub takes_two_subfields : get_or numbers' 2 0 ≡ 0 → ⊥
  takes_two_subfields taken =
      let z : ◌≡◌ {A = ℕ} 20 0 =
      sym (get_or_sets_within numbers 0 2 (0 ∷ 20 ∷ 20 ∷ 20 ∷ 0 ∷ 20 ∷ 21 ∷ 0 ∷ []) 0 (lit≤ tt) (omega (arith, room)))
      ∙ ap (λ (l : List ℕ). get_or l 2 0) (sym answered) ∙ taken in
      omega arith

  pub takes_an_empty_value : get_or numbers' 5 0 ≡ 0 → ⊥
  takes_an_empty_value taken =
      let z : ◌≡◌ {A = ℕ} 20 0 =
      sym (get_or_sets_within numbers 0 5 (0 ∷ 20 ∷ 20 ∷ 20 ∷ 0 ∷ 20 ∷ 21 ∷ 0 ∷ []) 0 (lit≤ tt) (omega (arith, room)))
      ∙ ap (λ (l : List ℕ). get_or l 5 0) (sym answered) ∙ taken in
      omega arith
