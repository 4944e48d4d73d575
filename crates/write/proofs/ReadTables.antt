-- The table of an accepted message, as it lies in the reader's buffers: what is counted there is the table, so some message reads to it.
-- Assumes nothing.
use mathlib.Core.Bool.{true, ◌&&◌}
use mathlib.Core.List.{List}
use mathlib.Core.Path.{◌≡◌, refl, subst⁻¹}
use Prim.Native.Nat.{ℕ, ◌*◌, ◌≤◌}
use native.Mathlib.Omega.{arith}
use lib.ListN.{length}
use lib.Seq.{sets, length-sets}
use lib.Dec.{leb}
use borrow.Author.Tests.{leb-true}
use Rattle.laws.proofs.Stores.{front_taken}
use Rattle.laws.proofs.Tests.{and_second}
use Rattle.form.specs.declared.limits.Limits.{Limits}
use Rattle.form.specs.Limits.{Lawful}
use Rattle.table.specs.Rows.{Table, segment_row_size}
use Rattle.table.specs.Reading.{room_of, accepted, reading, stated}
use Rattle.table.specs.Lent.{Lent, within_limits, counted, lent}
use Rattle.table.proofs.Accepting.{Accepted, accepting}
use Rattle.table.proofs.Room.{roomy-text, roomy-segments, roomy-leaves}
use Rattle.write.specs.inner.RowByRow.{Sized}
use Rattle.write.specs.Writing.{ReadTo}
use Rattle.write.specs.inner.ReadsBack.{is_table}
use Rattle.write.proofs.SameTables.{same_parts}
use Rattle.write.proofs.RoundTrip.{reads_back_lem}
use Rattle.write.proofs.RowByRow.{row_by_row}
use Rattle.table.proofs.Room.{stated-roomy}
use Rattle.write.proofs.LocalTables.{accepted_local}
use Rattle.write.proofs.LentTables.{Within, within_buffers_lem, local_within, is_table_lem}

module _ (L : Limits) (lawful : Lawful L) (levels : ℕ → ℕ → ℕ) (message text segments leaves : List ℕ) (t : Table)
    (read : reading L levels (room_of text segments leaves) message ≡ accepted t) where
  pub accepted_so : Accepted L levels (room_of text segments leaves) message t
  accepted_so = (accepting L levels (room_of text segments leaves) message t).0 read

  -- buffers of the stated sizes would do
  to-table : ReadTo L levels t
  to-table = (
    message,
    (accepting L levels (stated L) message t).1
        (record {
          separators = accepted_so.separators;
          roomy = stated-roomy L;
          fits = accepted_so.fits;
          header = accepted_so.header;
          no_fault = accepted_so.no_fault;
          segments = accepted_so.segments;
        }),
  )

  pub sized : Sized t
  sized = ((row_by_row L lawful levels t).0 ((reads_back_lem L lawful levels t).1 to-table)).0

  pub few-segments : t.card.segments ≤ L.segments
  few-segments = (accepted_local lawful accepted_so).few.segments

  pub segments_fit_lem : length t.segment_rows ≤ length segments
  segments_fit_lem = omega (arith, sized.segment_rows, few-segments, roomy-segments L (room_of text segments leaves) accepted_so.roomy)

  leaves_fit : length t.leaf_rows ≤ length leaves
  leaves_fit = omega (arith, sized.leaf_rows, (accepted_local lawful accepted_so).few.leaves, roomy-leaves L (room_of text segments leaves) accepted_so.roomy)

  text-fits : length t.text ≤ length text
  unfolding within_limits
  text-fits =
      omega (
        arith,
        sized.text,
        leb-true t.card.text L.bytes
            (and_second (leb t.card.segments L.segments && leb t.card.leaves L.leaves) (leb t.card.text L.bytes)
            (local_within L lawful levels t (accepted_local lawful accepted_so))),
        roomy-text L (room_of text segments leaves) accepted_so.roomy,
      )

  -- the table as it is lent to a lookup or to the writer
  abbrev pub table_left : Lent
  table_left = lent t.card (sets segments 0 t.segment_rows) (sets leaves 0 t.leaf_rows) (sets text 0 t.text)

  pub filed-counted : counted table_left ≡ t
  unfolding counted
  filed-counted =
      same_parts (counted table_left) t refl (front_taken segments t.segment_rows (t.card.segments * segment_row_size) sized.segment_rows segments_fit_lem)
      (front_taken leaves t.leaf_rows _ sized.leaf_rows leaves_fit) (front_taken text t.text t.card.text sized.text text-fits)

  pub filed-within : Within table_left
  filed-within =
      record {
        segment_rows = omega (arith, sized.segment_rows, segments_fit_lem, length-sets segments 0 t.segment_rows);
        leaf_rows = omega (arith, sized.leaf_rows, leaves_fit, length-sets leaves 0 t.leaf_rows);
        text = omega (arith, sized.text, text-fits, length-sets text 0 t.text);
      }

  pub filed-table : is_table L levels table_left ≡ true
  filed-table = (is_table_lem L lawful levels table_left).1 ((within_buffers_lem table_left).1 filed-within, subst⁻¹ (ReadTo L levels) filed-counted to-table)

  -- so some message reads to what was left
  pub filed-read : ReadTo L levels (counted table_left)
  filed-read = subst⁻¹ (ReadTo L levels) filed-counted to-table
