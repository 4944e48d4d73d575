-- What is promised of numeric results, on one page (rules D1 to D6), over the very predicates that the public functions ensure.
-- Assumes nothing.
use Rattle.std.specs.Prelude.{true, false, List, ◌∷◌, ◌↔◌, ◌≡◌, ℕ, suc, ◌+◌, ◌≤◌, ◌<◌, ◌^◌, ℤ, pos, nat_abs, length, get_or, take, drop}
use Rattle.form.specs.declared.limits.Limits.{Limits}
use Rattle.form.specs.Numbers.{no_table_number}
use Rattle.table.specs.Lent.{Lent}
use Rattle.write.specs.inner.ReadsBack.{is_table}
use Rattle.look.specs.Looking.{order_at}
use Rattle.value.specs.declared.reading.Value.{Value}
use Rattle.value.specs.declared.results.ValuesRead.{ValuesRead}
use Rattle.value.specs.declared.writing.ValueWritten.{ValueWritten}
use Rattle.value.specs.Refusals.{not_a_number, many_digits, out_of_range, narrow_output, not_an_order, little_room}
use Rattle.value.specs.Numerals.{plus, minus, NumberText}
use Rattle.value.specs.Values.{value_of, ReadsTo, Spelt, Shortest}
use Rattle.value.specs.Writing.{longest_text, WroteValue}
use Rattle.value.specs.Results.{is_numeric, numeric_rows, value_at, answers_room, ReadValues}

-- what a writing of a value did, of so many digits at most: `output` is what was lent, `output'` what it holds then
pub record WrittenValue (most : ℕ) (whole : ℤ) (decimals : ℕ) (output : List ℕ) (r : ValueWritten) (output' : List ℕ) : Type 0 where
  -- what is written reads to the value, every text that reads to it is at least as long, and there is no other shortest one (D4)
  pub shortest_written : r.number ≡ 0 → Shortest most whole decimals (take r.bytes output')
  pub one_shortest : r.number ≡ 0 → (text : List ℕ) → Shortest most whole decimals text → text ≡ take r.bytes output'
  -- it has the bytes that are answered, and these are no more than the longest text has
  pub bytes-written : r.number ≡ 0 → (length (take r.bytes output') ≡ r.bytes) × (r.bytes ≤ longest_text most)
  -- 0 is written without a minus
  pub zero_unsigned : r.number ≡ 0 → whole ≡ pos 0 → get_or (take r.bytes output') 0 0 ≡ minus → ⊥
  -- the number is 0, 22 or 23: 22 exactly where no text reads to the value, and else 23 exactly where the output is short (D5)
  pub no_text : (r.number ≡ out_of_range) ↔ ((text : List ℕ) → ReadsTo most whole decimals text → ⊥)
  pub short-output : (r.number ≡ narrow_output) ↔ (((text : List ℕ) × ReadsTo most whole decimals text) × (length output < longest_text most))
  pub other-number : (r.number ≡ out_of_range → ⊥) → (r.number ≡ narrow_output → ⊥) → r.number ≡ 0
  -- the output keeps its length, and bytes past the text stay; after a refusal all do, and no byte is counted
  pub output-length : length output' ≡ length output
  pub past_the_text : drop r.bytes output' ≡ drop r.bytes output
  pub refused-value : (r.number ≡ 0 → ⊥) → (output' ≡ output) × (r.bytes ≡ 0)

-- one value, of so many digits at most
pub record OneValue (most : ℕ) : Type 0 where
  -- reading and writing have one outcome each
  pub one-reading : (text : List ℕ) (r s : Value) → r ≡ value_of most text → s ≡ value_of most text → r ≡ s
  pub one-writing : (whole : ℤ) (decimals : ℕ) (output : List ℕ) {r s : ValueWritten} {output₁ output₂ : List ℕ}
      → WroteValue most whole decimals output r output₁ → WroteValue most whole decimals output s output₂ → (r ≡ s) × (output₁ ≡ output₂)
  -- a text reads to a whole number and a count of decimals exactly where it is spelt so (D1, D2)
  pub reads_exactly : (whole : ℤ) (decimals : ℕ) (text : List ℕ) → ReadsTo most whole decimals text ↔ Spelt most whole decimals text
  -- 20 exactly where it has not the shape of a number, 21 exactly where it has and there are too many digits, and 0 and 0 beside both (D3)
  pub no_number : (text : List ℕ) → ((value_of most text).number ≡ not_a_number) ↔ (NumberText text → ⊥)
  pub many_digits_lem : (text : List ℕ) → ((value_of most text).number ≡ many_digits) ↔ ((n : NumberText text) × (most < length n.whole + length n.decimals))
  pub none_beside : (text : List ℕ) → ((value_of most text).number ≡ 0 → ⊥) → ((value_of most text).whole ≡ pos 0) × ((value_of most text).decimals ≡ 0)
  -- a minus before zeros gives what they give without it (D2)
  pub minus-before_zeros : (decimals : ℕ) (text : List ℕ) → (get_or text 0 0 ≡ plus → ⊥) → (get_or text 0 0 ≡ minus → ⊥)
      → ReadsTo most (pos 0) decimals text → ReadsTo most (pos 0) decimals (minus ∷ text)
  -- some text reads to a value exactly where neither its digits nor its decimals are too many (D5)
  pub too_large : (whole : ℤ) (decimals : ℕ) → ((text : List ℕ) × ReadsTo most whole decimals text) ↔ ((nat_abs whole < 10 ^ most) × (decimals ≤ most))
  -- and what writing it does
  pub written-value : (whole : ℤ) (decimals : ℕ) {output output' : List ℕ} {r : ValueWritten}
      → WroteValue most whole decimals output r output' → WrittenValue most whole decimals output r output'

-- the k-th numeric result of an order, counted from 0, and its answer
abbrev pub kth_row : Lent → (order k : ℕ) → ℕ
kth_row t order k = get_or (numeric_rows t order) k 0

abbrev pub kth_answer : (most : ℕ) → Lent → (order k : ℕ) → Value
kth_answer most t order k = value_at most t (kth_row t order k)

-- what was answered for an order: `numbers`, `wholes` and `decimals` are what was lent, `numbers'`, `wholes'` and `decimals'` what they hold then
pub record AnsweredOrder (L : Limits) (levels : ℕ → ℕ → ℕ) (most : ℕ) (t : Lent) (order : ℕ) (numbers : List ℕ) (wholes : List ℤ) (decimals : List ℕ)
    (r : ValuesRead) (numbers' : List ℕ) (wholes' : List ℤ) (decimals' : List ℕ) : Type 0 where
  -- as many answers as there are numeric results
  pub counted-results : r.number ≡ 0 → r.count ≡ length (numeric_rows t order)
  -- the k-th answer is that of the k-th of them
  pub kth_answer_lem : (k : ℕ) → k < r.count
      → (get_or numbers' k 0 ≡ (kth_answer most t order k).number)
      × (get_or wholes' k (pos 0) ≡ (kth_answer most t order k).whole)
      × (get_or decimals' k 0 ≡ (kth_answer most t order k).decimals)
  -- the buffers keep their lengths, and entries past the count stay
  pub buffer_lengths : (length numbers' ≡ length numbers) × (length wholes' ≡ length wholes) × (length decimals' ≡ length decimals)
  pub past_the_count : (drop r.count numbers' ≡ drop r.count numbers)
      × (drop r.count wholes' ≡ drop r.count wholes)
      × (drop r.count decimals' ≡ drop r.count decimals)
  -- the number is 0, 13, 24 or 25: 13 exactly where no message reads to the table (W4), else 24 exactly where the row is no order, else 25 exactly where
  -- there are more numeric results than have room
  pub no_table : (r.number ≡ no_table_number) ↔ (is_table L levels t ≡ false)
  pub no_order : (r.number ≡ not_an_order) ↔ ((is_table L levels t ≡ true) × (order_at t order ≡ false))
  pub little_room_lem : (r.number ≡ little_room)
      ↔ ((is_table L levels t ≡ true) × (order_at t order ≡ true) × (answers_room (length numbers) (length wholes) (length decimals) < length (numeric_rows t order)))
  pub other-number : (r.number ≡ no_table_number → ⊥) → (r.number ≡ not_an_order → ⊥) → (r.number ≡ little_room → ⊥) → r.number ≡ 0
  -- the place is always 0; after a refusal all buffers are as they were, and no answer is counted
  pub no_place : r.place ≡ 0
  pub refused-order : (r.number ≡ 0 → ⊥) → (numbers' ≡ numbers) × (wholes' ≡ wholes) × (decimals' ≡ decimals) × (r.count ≡ 0)

-- the values of an order
pub record OrderValues (L : Limits) (levels : ℕ → ℕ → ℕ) (most : ℕ) : Type 0 where
  -- there is one outcome
  pub one_outcome : (t : Lent) (order : ℕ) (numbers : List ℕ) (wholes : List ℤ) (decimals : List ℕ)
      {r s : ValuesRead} {numbers₁ numbers₂ : List ℕ} {wholes₁ wholes₂ : List ℤ} {decimals₁ decimals₂ : List ℕ}
      → ReadValues L levels most t order numbers wholes decimals r numbers₁ wholes₁ decimals₁
      → ReadValues L levels most t order numbers wholes decimals s numbers₂ wholes₂ decimals₂
      → (r ≡ s) × (numbers₁ ≡ numbers₂) × (wholes₁ ≡ wholes₂) × (decimals₁ ≡ decimals₂)
  -- and this is what it is
  pub answered_order : (t : Lent) (order : ℕ) {numbers numbers' : List ℕ} {wholes wholes' : List ℤ} {decimals decimals' : List ℕ} {r : ValuesRead}
      → ReadValues L levels most t order numbers wholes decimals r numbers' wholes' decimals'
      → AnsweredOrder L levels most t order numbers wholes decimals r numbers' wholes' decimals'
  -- the numeric results are counted rows that are numeric results of the order, in the order of the rows, and none is left out
  pub only-results : (t : Lent) (order k : ℕ) → k < length (numeric_rows t order)
      → (kth_row t order k < t.card.segments) × (is_numeric t order (kth_row t order k) ≡ true)
  pub rows_rise : (t : Lent) (order k : ℕ) → suc k < length (numeric_rows t order) → kth_row t order k < kth_row t order (suc k)
  pub all_results : (t : Lent) (order i : ℕ) → i < t.card.segments → is_numeric t order i ≡ true
      → (k : ℕ) × (k < length (numeric_rows t order)) × (kth_row t order k ≡ i)
