-- `read::fill::put_segment` meets its contract: the four numbers of a row, copied to its place.
-- Assumes nothing.
use native.Mathlib.Omega.{arith}
use Rattle.laws.proofs.Slices.{middle_copied}
use Rattle.table.specs.Rows.{segment_row}
use Rattle.read.proofs.fill.put_segment.Goals as goal

pub returns : goal.returns
returns c = rw c.copy_from_slice.ensures.after (middle_copied _ (segment_row c.args.kind c.args.owner c.args.first c.args.count) _ _ (omega arith) (omega (arith, c.requires)))
