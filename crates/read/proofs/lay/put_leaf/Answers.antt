-- `read::lay::put_leaf` meets its contract: the seven numbers of a row, copied to its place.
-- Assumes nothing.
use native.Mathlib.Omega.{arith}
use Rattle.laws.proofs.Slices.{middle_copied}
use Rattle.read.specs.inner.Laying.{leaf_place, row_of}
use Rattle.read.proofs.lay.put_leaf.Goals as goal

pub returns : goal.returns
unfolding row_of leaf_place
returns c = rw c.copy_from_slice.ensures.after (middle_copied _ (row_of c.args.laying) _ _ (omega arith) (omega (arith, c.requires.room)))
