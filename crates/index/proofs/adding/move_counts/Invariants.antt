-- `index::adding::move_counts` meets its contract: what stood from i up to the end stands one further. Assumes nothing.
use Rattle.index.proofs.Moving.{Moving}
use Rattle.index.proofs.adding.move_counts.Given as goal

abbrev pub invariant-loop-i : goal.invariant-loop-i
invariant-loop-i l = Moving l.initial.counts 1 l.from l.end l.counts l.i

abbrev pub decreases-loop-i : goal.decreases-loop-i
decreases-loop-i l = l.i
