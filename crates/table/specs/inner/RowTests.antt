-- The tests of rows as a loop makes them (models that antt computes): of a leaf row's place and the place before it, of its start and the
-- texts before it, of the bytes of its text; and the segment rows that leaves state, one after the other.
-- Assumes nothing.
use Rattle.std.specs.Prelude.{Bool, true, false, not, ◌&&◌, List, [], ◌∷◌, ◌++◌, ℕ, zero, suc, ◌+◌, leb, eqb}
use Rattle.laws.specs.Lists.{same, among}
use Rattle.line.specs.Lines.{space}
use Rattle.order.specs.Owners.{owner}
use Rattle.table.specs.Leaves.{Leaf}
use Rattle.table.specs.Rows.{Next, none_before, next_after, row_next, start_in, length_in}
use Rattle.table.specs.inner.Flat.{ones}
use Rattle.table.specs.inner.BySegment.{kind_among}

-- whether one place comes next after another: some number is one more, the coarser are the same and the finer are 1
unfoldable pub next_place : List ℕ → List ℕ → Bool
next_place [] to = false
next_place (m ∷ from) [] = false
next_place (m ∷ from) (n ∷ to) = elim (eqb m n) [ true ↦ next_place from to | false ↦ eqb (suc m) n && same (ones from) to ]

-- whether the texts of n leaf rows from row i on lie end to end: each starts where the one before it ends, the first at `start`, and the
-- last ends at `finish`
unfoldable pub end_to_end : List ℕ → ℕ → ℕ → ℕ → ℕ → Bool
end_to_end rows finish i zero start = eqb start finish
end_to_end rows finish i (suc n) start =
    eqb (start_in rows i) start && end_to_end rows finish (suc i) n (start + length_in rows i)

-- whether a text is one of a leaf: no byte is below 32, and none is a separator
unfoldable pub leaf_text : List ℕ → List ℕ → Bool
leaf_text ps [] = true
leaf_text ps (b ∷ s) = leb space b && not (among ps b) && leaf_text ps s

-- whether leaves go on soundly after one at a place; whether they begin so there
unfoldable pub go_on : List ℕ → List ℕ → List Leaf → Bool
go_on ps place [] = true
go_on ps place (l ∷ ls) = next_place place l.place && leaf_text ps l.text && go_on ps l.place ls

unfoldable pub go_on_from : List ℕ → List ℕ → List Leaf → Bool
go_on_from ps place [] = false
go_on_from ps place (l ∷ ls) = same l.place place && leaf_text ps l.text && go_on ps l.place ls

-- the segment rows that the leaves of some segments state; `before` are the kinds of the segments before them, the nearest first
unfoldable pub rows_stated : (ℕ → ℕ) → Next → List ℕ → List (List Leaf) → List ℕ
rows_stated lv n before [] = []
rows_stated lv n before (g ∷ gs) =
    row_next n (kind_among g) (owner lv before (kind_among g)) g ++ rows_stated lv (next_after n g) (kind_among g ∷ before) gs

-- all of them: no segment is before them
abbrev pub stated_rows : (ℕ → ℕ) → List (List Leaf) → List ℕ
stated_rows lv groups = rows_stated lv none_before [] groups
