-- `table::class::set_classes` meets its contract: what is left to store from byte b on gives the whole.
-- Assumes nothing.
use mathlib.Core.Path.{◌≡◌}
use Prim.Native.Nat.{◌≤◌, ◌-◌}
use lib.ListN.{replicate}
use lib.Seq.{sets}
use Rattle.table.proofs.class.set_classes.Given as goal

abbrev pub invariant-loop-b : goal.invariant-loop-b
invariant-loop-b l = (l.b ≤ 32) × (sets l.class l.b (replicate (32 - l.b) 5) ≡ sets l.initial.class 0 (replicate 32 5))

abbrev pub decreases-loop-b : goal.decreases-loop-b
decreases-loop-b l = 32 - l.b
