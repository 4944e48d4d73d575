-- The table of an accepted message, as it lies in the reader's buffers: the writer gives its bytes, and its rows are listed.
-- Assumes nothing.
use mathlib.Core.List.{List}
use mathlib.Core.Path.{◌≡◌, ap, ◌∙◌}
use Prim.Native.Nat.{ℕ, ◌+◌, ◌*◌, ◌≤◌, ◌<◌}
use native.Mathlib.Omega.{arith}
use lib.ListN.{length, get_or}
use lib.Seq.{sets}
use borrow.Author.Tests.{le-ltb}
use Rattle.laws.specs.Lists.{concat}
use Rattle.laws.proofs.Every.{all_at}
use Rattle.laws.proofs.Tables.{values_same}
use Rattle.form.specs.declared.limits.Limits.{Limits}
use Rattle.form.specs.Limits.{Lawful}
use Rattle.table.specs.Rows.{Table, segment_row_size}
use Rattle.table.specs.Reading.{room_of, accepted, reading}
use Rattle.table.specs.inner.Back.{written}
use Rattle.table.specs.Lent.{Lent}
use Rattle.table.proofs.RowNumbers.{judged-few}
use Rattle.table.proofs.Room.{front_at}
use Rattle.write.specs.Answer.{answer, written_size}
use Rattle.write.proofs.LentTables.{table-written-out}
use Rattle.write.proofs.ReadTables.{accepted_so, sized, segments_fit_lem, table_left, filed-counted, filed-table}
use Rattle.listing.specs.Listing.{columns, row_line, row_lines}

module _ (L : Limits) (lawful : Lawful L) (levels : ℕ → ℕ → ℕ) (message text segments leaves : List ℕ) (t : Table)
    (read : reading L levels (room_of text segments leaves) message ≡ accepted t) where
  -- the table as it is lent to the writer
  abbrev here : Lent
  here = table_left L lawful levels message text segments leaves t read

  pub filed-size : written_size L levels here ≡ length (written L t)
  unfolding written_size answer
  filed-size =
      ap (λ w. (answer w).bytes) (table-written-out L lawful levels here L.bytes (le-ltb L.bytes L.bytes (omega arith))
      (filed-table L lawful levels message text segments leaves t read))
      ∙ ap (λ (u : Table). length (written L u)) (filed-counted L lawful levels message text segments leaves t read)

  rows-sized : length t.segment_rows ≡ t.card.segments * segment_row_size
  rows-sized = (sized L lawful levels message text segments leaves t read).segment_rows

  -- the rows in the buffer are listed as those of the table
  number_at : (j : ℕ) → j < t.card.segments * segment_row_size → get_or (sets segments 0 t.segment_rows) j 0 ≡ get_or t.segment_rows j 0
  number_at j h = front_at segments t.segment_rows j (segments_fit_lem L lawful levels message text segments leaves t read) (omega (arith, rows-sized))

  -- and the limits bound them
  pub filed-numbers : (most : ℕ) → 12 ≤ most → L.segments ≤ most → L.leaves + 1 ≤ most → (j : ℕ) → j < t.card.segments * segment_row_size
      → get_or (sets segments 0 t.segment_rows) j 0 ≤ most
  filed-numbers most kinds rows few j h =
      omega (
        arith,
        number_at j h,
        all_at j 0 (judged-few most kinds rows few (accepted_so L lawful levels message text segments leaves t read).segments)
            (let g : j < length t.segment_rows = omega (arith, rows-sized) in g),
      )

  row_listed : (k : ℕ) → k < t.card.segments → row_line (sets segments 0 t.segment_rows) k ≡ row_line t.segment_rows k
  unfolding row_line columns
  row_listed k h =
      rw (
        number_at (k * segment_row_size) (omega arith),
        number_at (k * segment_row_size + 1) (omega arith),
        number_at (k * segment_row_size + 2) (omega arith),
        number_at (k * segment_row_size + 3) (omega arith),
      )

  pub filed-rows : row_lines (sets segments 0 t.segment_rows) t.card.segments ≡ row_lines t.segment_rows t.card.segments
  unfolding row_lines
  filed-rows =
      ap concat (values_same (row_line (sets segments 0 t.segment_rows)) (row_line t.segment_rows) 0 t.card.segments
      (λ k least most. row_listed k (omega arith)))
