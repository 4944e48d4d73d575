-- The columns of the segment rows as the reader leaves them: of an accepted message each row has its segment's kind, its owner
-- (O2, O3), the number of its first leaf and its leaf count.
-- Assumes nothing.
use mathlib.Core.List.{List}
use mathlib.Core.Path.{◌≡◌, sym, ap, subst}
use Prim.Native.Nat.{ℕ, ◌<◌}
use native.Mathlib.Omega.{arith}
use lib.ListN.{length}
use Rattle.table.specs.Reading.{room_of}
use Rattle.form.specs.declared.limits.Limits.{Limits}
use Rattle.form.specs.declared.separators.Separators.{Separators}
use Rattle.table.specs.Rows.{table_of, RowOf}
use Rattle.table.proofs.Room.{roomy-segments}
use Rattle.table.proofs.SegmentColumns.{table-rows, length-table-rows, front_row}
use Rattle.read.specs.declared.Answer.{Answer}
use Rattle.read.specs.Acceptance.{Read}
use Rattle.read.specs.Answering.{answer_of, segments_put}
use Rattle.read.specs.Sound.{segments_in}

-- an accepted call leaves the row of each segment at its place
module _ {L : Limits} {levels : ℕ → ℕ → ℕ} {message : List ℕ} {ps : Separators} {text segments leaves text' segments' leaves' : List ℕ} {r : Answer}
    (read : Read L levels message ps text segments leaves r text' segments' leaves') where
  pub segments-count : r.card.segments ≡ length (segments_in L ps message)
  unfolding answer_of table_of
  segments-count = ap (λ (a : Answer). a.card.segments) read.given.answer

  pub owners-column : (i : ℕ) → i < r.card.segments → RowOf levels ps (segments_in L ps message) segments' i
  unfolding segments_put
  owners-column i h =
      let segs = segments_in L ps message in
      let rows = (table_of levels ps segs).segment_rows in
      let size = length-table-rows levels ps segs in
      let room = roomy-segments L (room_of text segments leaves) read.sound.roomy in
      let few = read.sound.few-segments in
      let inside : i < length segs = omega (arith, segments-count) in
      subst (λ (s : List ℕ). RowOf levels ps segs s i) (sym read.given.segment_rows)
      (front_row segments rows i (omega (arith, size, room, few)) (omega (arith, size)) (table-rows levels ps segs i inside))
