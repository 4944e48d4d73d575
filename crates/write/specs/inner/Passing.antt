-- The writing pass over leaf rows (W1, W3): what it asks of the rows and the text, and what it gives.
-- Assumes nothing.
use Rattle.std.specs.Prelude.{true, List, ◌∷◌, ◌≡◌, ℕ, ◌+◌, ◌*◌, ◌≤◌, ◌<◌, length}
use Rattle.std.proofs.lemmas.List.Edits.{sets}
use Rattle.laws.specs.Tables.{values}
use Rattle.form.specs.declared.limits.Limits.{Limits}
use Rattle.form.specs.declared.separators.Separators.{Separators}
use Rattle.form.specs.Limits.{Lawful}
use Rattle.form.specs.Header.{splitting}
use Rattle.line.specs.Lines.{CR}
use Rattle.line.specs.Cutting.{cuts, unlines}
use Rattle.table.specs.Leaves.{split}
use Rattle.table.specs.inner.Back.{leaf_at, between, unsplit}
use Rattle.table.specs.inner.RowTests.{next_place}
use Rattle.write.specs.inner.Filling.{InSegment}
use Rattle.write.specs.declared.lines.Going.{Going}
use Rattle.table.specs.Rows.{leaf_row_size, place_in, start_in, length_in}

-- the text of the leaf of row i, counted from 0, lies in the text area and has no CR in it
pub record LeafWithin (rows text : List ℕ) (i : ℕ) : Type 0 where
  pub within : start_in rows i + length_in rows i ≤ length text
  pub in_segment : InSegment (leaf_at rows text i).text

-- the lines that so many leaf rows are written in
unfoldable pub lines_of_rows : Limits → Separators → List ℕ → ℕ → List ℕ → List (List ℕ)
lines_of_rows L ps rows count text =
    cuts L ps.field (split CR (unsplit (CR ∷ splitting ps) (values (leaf_at rows text) 0 count)))

-- the separator that leads from the leaf of a row to the next one
abbrev pub leading : Separators → List ℕ → ℕ → ℕ
leading ps rows row = between (CR ∷ splitting ps) (place_in rows row) (place_in rows (row + 1))

-- the leaf after that of a row stands at the place that comes next
abbrev pub NextAfter : List ℕ → ℕ → Type 0
NextAfter rows row = next_place (place_in rows row) (place_in rows (row + 1)) ≡ true

-- what the pass asks
pub record Writable (L : Limits) (ps : Separators) (rows : List ℕ) (count : ℕ) (text output : List ℕ) : Type 0 where
  pub lawful : Lawful L
  pub some : 1 ≤ count
  pub long : count * leaf_row_size ≤ length rows
  pub leaves : (i : ℕ) → i < count → LeafWithin rows text i
  -- the texts lie end to end
  pub first : start_in rows 0 ≡ 0
  pub next : (i : ℕ) → i + 1 < count → start_in rows (i + 1) ≡ start_in rows i + length_in rows i
  -- no separator is CR
  pub splits : InSegment (splitting ps)
  -- each place comes next after the one before it
  pub places : (i : ℕ) → i + 1 < count → NextAfter rows i
  pub fits : length (unlines (lines_of_rows L ps rows count text)) ≤ length output

-- what it gives: the lines' bytes at the front of the output, and how many bytes and lines they are
pub record WrittenOut
    (L : Limits) (ps : Separators) (rows : List ℕ) (count : ℕ) (text output : List ℕ) (r : Going) (output' : List ℕ)
    : Type 0 where
  pub message : output' ≡ sets output 0 (unlines (lines_of_rows L ps rows count text))
  pub bytes : r.out ≡ length (unlines (lines_of_rows L ps rows count text))
  pub lines : r.lines ≡ length (lines_of_rows L ps rows count text)
