-- `archive::owned::put_row` meets its contract: four numbers, copied at once.
-- Assumes nothing.
use Prim.Native.Nat.{◌+◌, ◌-◌}
use native.Mathlib.Omega.{arith}
use Rattle.laws.proofs.Slices.{middle_copied}
use Rattle.table.specs.Rows.{segment_row}
use Rattle.archive.proofs.owned.put_row.Goals as goal

pub returns : goal.returns
returns c =
    rw c.copy_from_slice.ensures.after
    (middle_copied c.args.to.now (segment_row c.args.kind c.args.owner c.args.first c.args.count) c.args.at (c.args.at + 4 - c.args.at) (omega arith) (omega arith))
