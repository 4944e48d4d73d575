-- The first two columns of a leaf row by themselves: the segment and the field that its leaf stands in.
-- Assumes nothing.
use Rattle.std.specs.Prelude.{List, ℕ, ◌+◌, ◌*◌, get_or}
use Rattle.table.specs.Rows.{leaf_row_size}

abbrev pub segment_in : List ℕ → ℕ → ℕ
segment_in rows i = get_or rows (i * leaf_row_size) 0

abbrev pub field_in : List ℕ → ℕ → ℕ
field_in rows i = get_or rows (i * leaf_row_size + 1) 0
