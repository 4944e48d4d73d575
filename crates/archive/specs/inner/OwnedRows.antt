-- Segment rows with other owners: each keeps its kind, its first leaf and its leaf count. And a table put into new buffers so.
-- Assumes nothing.
use Rattle.std.specs.Prelude.{List, [], ◌∷◌, ◌++◌, ◌≡◌, ℕ, drop}
use Rattle.std.proofs.lemmas.List.Edits.{sets}
use Rattle.order.specs.Owners.{level, owners}
use Rattle.table.specs.Lent.{Lent, counted}
use Rattle.write.specs.inner.Tests.{kind_column}
use Rattle.table.specs.Rows.{segment_row_size, segment_row, kind_in, first_in, count_in}

-- as many rows as there are owners
unfoldable pub rows_owned : (owners rows : List ℕ) → List ℕ
rows_owned [] rows = []
rows_owned (o ∷ os) rows = segment_row (kind_in rows 0) o (first_in rows 0) (count_in rows 0) ++ rows_owned os (drop segment_row_size rows)

-- the rows of a table with the owners in force
abbrev pub rows_now : Lent → List ℕ
rows_now l =
    rows_owned (owners (level l.card.context) (kind_column (counted l).segment_rows l.card.segments)) (counted l).segment_rows

-- a table put into new buffers
pub record PutNow (l : Lent) (text segments leaves text' segments' leaves' : List ℕ) : Type 0 where
  pub text_area : text' ≡ sets text 0 (counted l).text
  pub segment_rows : segments' ≡ sets segments 0 (rows_now l)
  pub leaf_rows : leaves' ≡ sets leaves 0 (counted l).leaf_rows
