-- `index::code::compare` meets its contract: what is left of both stands to each other as they do. The measure is the bytes that are left.
-- Assumes nothing.
use Prim.Native.Nat.{◌-◌}
use lib.ListN.{length}
use Rattle.index.proofs.Beside.{Beside}
use Rattle.index.proofs.code.compare.Given as goal

abbrev pub invariant-loop-k : goal.invariant-loop-k
invariant-loop-k l = Beside l.codes l.at l.code l.n l.k

abbrev pub decreases-loop-k : goal.decreases-loop-k
decreases-loop-k l = length l.code - l.k
