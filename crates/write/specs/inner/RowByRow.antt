-- The local conditions of a table as a writer tests them, row by row (W4): a leaf row against the one before it, a
-- segment row against the leaves of its segment.
-- Assumes nothing.
use Rattle.std.specs.Prelude.{true, ◌≡◌, ℕ, ◌*◌, length, drop}
use Rattle.form.specs.declared.limits.Limits.{Limits}
use Rattle.form.specs.Header.{splitting}
use Rattle.table.specs.Rows.{Table, segment_row_size, leaf_row_size}
use Rattle.table.specs.inner.Back.{leaves_of, separators_in}
use Rattle.table.specs.inner.RowTests.{end_to_end, go_on_from, stated_rows}
use Rattle.write.specs.inner.Local.{HeaderRows, KindRows, FewRows, groups_of, third_place}

-- a table whose lists have the entries that its card counts, as those of a lent table within its buffers do
pub record Sized (t : Table) : Type 0 where
  pub segment_rows : length t.segment_rows ≡ t.card.segments * segment_row_size
  pub leaf_rows : length t.leaf_rows ≡ t.card.leaves * leaf_row_size
  pub text : length t.text ≡ t.card.text

pub record RowByRow (L : Limits) (levels : ℕ → ℕ → ℕ) (t : Table) : Type 0 where
  pub header : HeaderRows t
  -- from the third leaf on each stands at the next place, and its text has no byte below 32 and no separator
  pub others : go_on_from (splitting (separators_in t)) third_place (drop 2 (leaves_of t)) ≡ true
  -- each leaf starts where the one before it ends, and the last ends with the text
  pub laid : end_to_end t.leaf_rows t.card.text 0 t.card.leaves 0 ≡ true
  pub kinds : KindRows t
  -- each segment row states the leaves of its segment, and there is no other row
  pub stated : t.segment_rows ≡ stated_rows (levels t.card.context) (groups_of t)
  pub few : FewRows L t
