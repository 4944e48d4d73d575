-- `read::lay::lay_line` meets its contract: each turn copies text and closes a leaf, and what is left gives the whole.
-- Assumes nothing.
use Prim.Native.Nat.{◌-◌}
use lib.ListN.{length}
use Rattle.read.proofs.LineLaying.{Going}
use Rattle.read.proofs.lay.lay_line.Given as goal

abbrev pub invariant-loop-leaves : goal.invariant-loop-leaves
invariant-loop-leaves l = Going l.class l.message l.from l.initial.now l.initial.text l.initial.leaves l.text l.leaves l.now l.i

abbrev pub decreases-loop-leaves : goal.decreases-loop-leaves
decreases-loop-leaves l = length l.message - l.i
