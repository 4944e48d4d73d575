-- `read::lay::copy_text` meets its contract: what is left to copy gives the whole.
-- Assumes nothing.
use Prim.Native.Nat.{◌+◌, ◌-◌}
use lib.ListN.{length}
use Rattle.read.proofs.Copying.{Copying}
use Rattle.read.proofs.lay.copy_text.Given as goal

abbrev pub invariant-loop-text : goal.invariant-loop-text
invariant-loop-text l = Copying l.class l.message l.from l.initial.text l.out l.text l.n l.b

abbrev pub decreases-loop-text : goal.decreases-loop-text
decreases-loop-text l = length l.message - (l.from + l.n)
