-- Where rows stand in a message (rules E1 to E3): the offset at which a row's first line begins, and how many lines it takes.
-- Assumes nothing.
use Rattle.std.specs.Prelude.{true, false, List, [], ◌∷◌, map, ℕ, zero, suc, get_or, drop}
use Rattle.form.specs.declared.limits.Limits.{Limits}
use Rattle.line.specs.Lines.{walk_from, texts}
use Rattle.line.specs.Joining.{addendum}
use Rattle.line.specs.Finding.{found_at, next_of}
use Rattle.source.specs.declared.row.RowPlace.{RowPlace}
use Rattle.source.specs.declared.row.LineRun.{LineRun}

-- the field separator that a message names (H1): its byte 1, and 0, which no line has, where there is none
abbrev pub named_field : List ℕ → ℕ
named_field message = get_or message 1 0

-- how many addenda some lines begin with (A1)
unfoldable pub addenda_ahead : ℕ → List (List ℕ) → ℕ
addenda_ahead separator [] = 0
addenda_ahead separator (l ∷ ls) = elim (addendum separator l) [ true ↦ suc (addenda_ahead separator ls) | false ↦ 0 ]

-- a row among some lines: how many lines stand before its first one, and how many it takes
pub record RowSpan : Type 0 where
  pub before : ℕ
  pub taken : ℕ

-- the rows of some lines that have k others before them: each line that is no addendum begins a row (A2), and the addenda behind it belong
-- to it (A3)
unfoldable pub rows_of : ℕ → ℕ → List (List ℕ) → List RowSpan
rows_of separator k [] = []
rows_of separator k (l ∷ ls) =
    elim (addendum separator l) [
      | true ↦ rows_of separator (suc k) ls
      | false ↦ record { before = k; taken = suc (addenda_ahead separator ls) } ∷ rows_of separator (suc k) ls
    ]

-- the lines of a message from the place `at` on, as far as there are sound ones (P1)
unfoldable pub lines_from : Limits → List ℕ → ℕ → List (List ℕ)
lines_from L message at = texts (walk_from L at (drop at message))

-- the place that a walk from the place `at` comes to after k lines; at the end or a fault it stays (P1)
unfoldable pub place_ahead : Limits → List ℕ → ℕ → ℕ → ℕ
place_ahead L message at zero = at
place_ahead L message at (suc k) = place_ahead L message (next_of at (found_at L message at)) k

-- where a row stands among the lines from the place `at` on
abbrev pub standing_at : Limits → List ℕ → ℕ → RowSpan → RowPlace
standing_at L message at row = record { start = place_ahead L message at row.before; lines = row.taken }

-- where all rows stand whose lines come from the place `at` on
unfoldable pub places_from : Limits → ℕ → List ℕ → ℕ → List RowPlace
places_from L separator message at = map (standing_at L message at) (rows_of separator 0 (lines_from L message at))

-- where the rows of a message stand, one after the other
unfoldable pub row_places : Limits → List ℕ → List RowPlace
row_places L message = places_from L (named_field message) message 0

-- no row
abbrev pub no_row_place : RowPlace
no_row_place = record { start = 0; lines = 0 }

-- where the row with a number stands (E1), counted from 1 as the reader counts; 0 and 0 where there is no such row
unfoldable pub place_of_row : Limits → List ℕ → ℕ → RowPlace
place_of_row L message row = get_or (no_row_place ∷ row_places L message) row no_row_place

-- how many lines the first of some lines and the addenda behind it are
unfoldable pub first_taken : ℕ → List (List ℕ) → ℕ
first_taken separator [] = 0
first_taken separator (l ∷ ls) = suc (addenda_ahead separator ls)

-- n lines from a place on, and the place behind them
abbrev pub run_of : Limits → List ℕ → ℕ → ℕ → LineRun
run_of L message at n = record { lines = n; next = place_ahead L message at n }

-- the line at a place and the addenda behind it (E2)
unfoldable pub row_by : Limits → ℕ → List ℕ → ℕ → LineRun
row_by L separator message at = run_of L message at (first_taken separator (lines_from L message at))

unfoldable pub row_at : Limits → List ℕ → ℕ → LineRun
row_at L message at = row_by L (named_field message) message at
