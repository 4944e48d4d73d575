-- What is promised of the rows of an accepted message (rules E1 to E3), beyond the contracts: as statements about `place_of_row`, which the contract of
-- `row_place` names, and about the message's lines and joined segments.
-- Assumes nothing.
use Rattle.std.specs.Prelude.{false, List, [], ◌∷◌, map, ◌↔◌, ◌⊎◌, ◌≡◌, ℕ, suc, ◌+◌, ◌-◌, ◌≤◌, ◌<◌, length, get_or, take}
use Rattle.laws.specs.Lists.{concat}
use Rattle.laws.specs.Every.{All}
use Rattle.form.specs.declared.limits.Limits.{Limits}
use Rattle.form.specs.Forms.{small_form}
use Rattle.line.specs.Joining.{addendum, joined}
use Rattle.table.specs.Rows.{Table}
use Rattle.source.specs.Places.{named_field, lines_from, row_places, no_row_place, place_of_row}
use Rattle.source.specs.Positions.{position_of, blank_before}
use Rattle.source.specs.declared.row.RowPlace.{RowPlace}

-- all lines of a message
abbrev pub all_lines : Limits → List ℕ → List (List ℕ)
all_lines L message = lines_from L message 0

-- the lines of a row, by where it stands: so many from its first one on
unfoldable pub lines_taken : Limits → List ℕ → RowPlace → List (List ℕ)
lines_taken L message p = take p.lines (lines_from L message p.start)

-- how many lines stand before a place at which one begins, and the number of that line, counted from 1
unfoldable pub lines_before : Limits → List ℕ → ℕ → ℕ
lines_before L message at = length (all_lines L message) - length (lines_from L message at)

-- the number of the first line of a row, counted from 1
abbrev pub first_line : Limits → List ℕ → ℕ → ℕ
first_line L message row = suc (lines_before L message (place_of_row L message row).start)

-- row number and line number agree for all rows up to this one
abbrev pub AgreeUpTo : Limits → List ℕ → ℕ → Type 0
AgreeUpTo L message row = (r : ℕ) → 1 ≤ r → r ≤ row → first_line L message r ≡ r

-- no line before this row is an addendum
abbrev pub NoneCarried : Limits → List ℕ → ℕ → Type 0
NoneCarried L message row =
    All (λ (l : List ℕ). addendum (named_field message) l ≡ false) (take (lines_before L message (place_of_row L message row).start) (all_lines L message))

-- of a message whose first line is no addendum, as that of every accepted one
pub record RowsStand (L : Limits) (message : List ℕ) : Type 0 where
  -- there is a place for each joined segment, and for no other number
  pub counted : length (row_places L message) ≡ length (joined (named_field message) (all_lines L message))
  pub some : (row : ℕ) → 1 ≤ row → row ≤ length (row_places L message) → 1 ≤ (place_of_row L message row).lines
  pub none : (row : ℕ) → (row ≡ 0) ⊎ (length (row_places L message) < row) → place_of_row L message row ≡ no_row_place
  -- the first line of row 1 begins at 0
  pub first : (place_of_row L message 1).start ≡ 0
  -- the rows' places rise
  pub rises : (row later : ℕ) → 1 ≤ row → row < later → later ≤ length (row_places L message)
      → (place_of_row L message row).start < (place_of_row L message later).start
  -- each row's lines joined are its segment
  pub segment : (row : ℕ) → 1 ≤ row → row ≤ length (row_places L message)
      → joined (named_field message) (lines_taken L message (place_of_row L message row)) ≡ get_or (joined (named_field message) (all_lines L message)) (row - 1) [] ∷ []
  -- and together they are all lines
  pub all : concat (map (lines_taken L message) (row_places L message)) ≡ all_lines L message
  -- row number and line number agree up to a row exactly where no line before it is an addendum
  pub agree : (row : ℕ) → 1 ≤ row → row ≤ length (row_places L message) → AgreeUpTo L message row ↔ NoneCarried L message row

-- the line that an editor shows for the first line of a row
abbrev pub shown_line : Limits → List ℕ → ℕ → ℕ
shown_line L message row = (position_of message (place_of_row L message row).start).line

-- how many blank lines stand before a row
abbrev pub blank_lines : Limits → List ℕ → ℕ → ℕ
blank_lines L message row = blank_before message (place_of_row L message row).start

-- The same in an editor, which counts blank lines as well.
pub record RowsShown (L : Limits) (message : List ℕ) : Type 0 where
  -- an editor shows the number of a row's first line, and one more for each blank line before it
  pub shown : (row : ℕ) → 1 ≤ row → row ≤ length (row_places L message) → shown_line L message row ≡ first_line L message row + blank_lines L message row
  -- that is the row's own number exactly where no line before it is an addendum, and none is blank
  pub shown-agree : (row : ℕ) → 1 ≤ row → row ≤ length (row_places L message)
      → (shown_line L message row ≡ row) ↔ (NoneCarried L message row × (blank_lines L message row ≡ 0))

-- of a message that is accepted with a table, in either form: so its rows stand, and they are as many as the table has
pub record AcceptedRows (message : List ℕ) (t : Table) : Type 0 where
  pub stand : RowsStand small_form message
  pub shown : RowsShown small_form message
  pub counted : length (row_places small_form message) ≡ t.card.segments
