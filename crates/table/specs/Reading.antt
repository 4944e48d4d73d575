-- The outcome of reading a message (rules N1, N2 and N4): accepted with its table, or one number and one place.
-- Assumes nothing.
use Rattle.std.specs.Prelude.{Bool, true, false, ◌||◌, List, ℕ, ◌*◌, ltb, eqb, length}
use Rattle.laws.specs.Lists.{first_from}
use Rattle.form.specs.declared.limits.Limits.{Limits}
use Rattle.form.specs.declared.separators.Separators.{Separators}
use Rattle.form.specs.declared.separators.Header.TheVariants.{Sound, Broken}
use Rattle.form.specs.Header.{header_of}
use Rattle.form.specs.Numbers.{short_buffer, long_message, broken_header, many_segments, unknown_kind, no_context, misplaced_kind, many_leaves}
use Rattle.line.specs.Lines.{walk, texts, fault_number, fault_place}
use Rattle.line.specs.Joining.{joined}
use Rattle.order.specs.inner.Place.{misplaced}
use Rattle.table.specs.Rows.{Table, segment_row_size, leaf_row_size, kinds_of, context_in, all_leaves, table_of}

-- how long the three lent buffers are: bytes of the text area, numbers of the segment rows, numbers of the leaf rows
pub record Room : Type 0 where
  pub text : ℕ
  pub segment_rows : ℕ
  pub leaf_rows : ℕ

-- that of three lent buffers
abbrev pub room_of : (text segments leaves : List ℕ) → Room
room_of text segments leaves = record { text = length text; segment_rows = length segments; leaf_rows = length leaves }

-- what reading comes to: a refusal with its number and its place, or the table
pub data Outcome : Type 0 where
  refused : (number place : ℕ) → Outcome
  accepted : Table → Outcome

-- a test that refuses with a number at the place 0; one that refuses at a place, where that is not 0
unfoldable pub refuse_if : Bool → ℕ → Outcome → Outcome
refuse_if true number else = refused number 0
refuse_if false number else = else

unfoldable pub refuse_at : ℕ → ℕ → Outcome → Outcome
refuse_at place number else = elim (eqb place 0) [ true ↦ else | false ↦ refused number place ]

-- the least buffers that are not short (N1)
unfoldable pub stated : Limits → Room
stated L = record { text = L.bytes; segment_rows = L.segments * segment_row_size; leaf_rows = L.leaves * leaf_row_size }

-- whether one of the buffers is short (N1)
unfoldable pub short : Limits → Room → Bool
short L room =
    ltb room.text L.bytes
    || ltb room.segment_rows (L.segments * segment_row_size)
    || ltb room.leaf_rows (L.leaves * leaf_row_size)

-- the number of the first segment whose kind is unknown (S1), or 0 where there is none
unfoldable pub first_unknown : List ℕ → ℕ
first_unknown kinds = first_from (eqb 0) 1 kinds

-- the tests 7 to 11 (N2), on the joined segments alone (N4); `misplaced` is the place of number 10, which `misplaced_means`
-- (order/proofs/Misplaced.antt) says by the grammar
unfoldable pub judged : Limits → (ℕ → ℕ → ℕ) → Separators → List (List ℕ) → Outcome
judged L levels ps segments =
    refuse_if (ltb L.segments (length segments)) many_segments
    (refuse_at (first_unknown (kinds_of ps segments)) unknown_kind
    (refuse_if (eqb (context_in ps segments) 0) no_context
    (refuse_at (misplaced (context_in ps segments) (kinds_of ps segments)) misplaced_kind
    (refuse_if (ltb L.leaves (length (all_leaves ps segments))) many_leaves
    (accepted (table_of levels ps segments))))))

-- what follows the test of the header: the first fault of the lines refuses (L6), else the tests 7 to 11 decide
unfoldable pub of_message : Limits → (ℕ → ℕ → ℕ) → List ℕ → Separators → Outcome
of_message L levels message ps =
    elim (eqb (fault_number (walk L message)) 0) [
      | true ↦ judged L levels ps (joined ps.field (texts (walk L message)))
      | false ↦ refused (fault_number (walk L message)) (fault_place (walk L message))
    ]

-- all tests in their turn (N2): of the buffers, of the message's length, of its header, and those that follow
unfoldable pub reading : Limits → (ℕ → ℕ → ℕ) → Room → List ℕ → Outcome
reading L levels room message =
    refuse_if (short L room) short_buffer
    (refuse_if (ltb L.bytes (length message)) long_message
    (elim (header_of message) [ Sound ps ↦ of_message L levels message ps | Broken ↦ refused broken_header 0 ]))
