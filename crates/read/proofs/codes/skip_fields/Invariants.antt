-- `read::codes::skip_fields` meets its contract: each turn goes over text and one byte behind it, up to field 4 or the line's end.
-- Assumes nothing.
use Prim.Native.Nat.{◌-◌}
use lib.ListN.{length}
use Rattle.read.proofs.SkippedFields.{Skipping}
use Rattle.read.proofs.codes.skip_fields.Given as goal

abbrev pub invariant-loop-left : goal.invariant-loop-left
invariant-loop-left l = Skipping l.class l.message l.fn.taken l.at l.left

abbrev pub decreases-loop-left : goal.decreases-loop-left
decreases-loop-left l = length l.message - l.at
