-- `read::codes::plain_end` meets its contract: what is left of the text ends where all of it ends.
-- Assumes nothing.
use Prim.Native.Nat.{◌-◌}
use lib.ListN.{length}
use Rattle.read.proofs.SkippedFields.{PlainTo}
use Rattle.read.proofs.codes.plain_end.Given as goal

abbrev pub invariant-loop-at : goal.invariant-loop-at
invariant-loop-at l = PlainTo l.class l.message l.from l.at

abbrev pub decreases-loop-at : goal.decreases-loop-at
decreases-loop-at l = length l.message - l.at
