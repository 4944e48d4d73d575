-- `line::finder::text_end` meets its contract. The loop's invariant: the run from here, cut at `stop`, ends where the whole one does.
-- Assumes nothing.
use mathlib.Core.Path.{◌≡◌}
use Prim.Native.Nat.{◌+◌, ◌-◌, ◌≤◌, min}
use lib.ListN.{drop}
use Rattle.line.specs.Finding.{text_run}
use Rattle.line.proofs.finder.text_end.Given as goal

abbrev pub invariant-loop-i : goal.invariant-loop-i
invariant-loop-i l = (l.from ≤ l.i) × (l.i ≤ l.stop) × (l.i + min (l.stop - l.i) (text_run (drop l.i l.message)) ≡ l.from + min (l.stop - l.from) (text_run (drop l.from l.message)))

abbrev pub decreases-loop-i : goal.decreases-loop-i
decreases-loop-i l = l.stop - l.i
