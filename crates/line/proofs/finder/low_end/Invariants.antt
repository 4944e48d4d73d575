-- `line::finder::low_end` meets its contract. The loop's invariant: the run from here ends where the whole one does.
-- Assumes nothing.
use mathlib.Core.Path.{◌≡◌}
use Prim.Native.Nat.{◌+◌, ◌-◌}
use lib.ListN.{length, drop}
use Rattle.line.specs.Finding.{low_run}
use Rattle.line.proofs.finder.low_end.Given as goal

abbrev pub invariant-loop-i : goal.invariant-loop-i
invariant-loop-i l = l.i + low_run (drop l.i l.message) ≡ l.from + low_run (drop l.from l.message)

abbrev pub decreases-loop-i : goal.decreases-loop-i
decreases-loop-i l = length l.message - l.i
