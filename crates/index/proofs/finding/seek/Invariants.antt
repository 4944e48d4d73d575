-- `index::finding::seek` meets its contract: the half that is kept comes to the place that all come to. The measure is the places that are left.
-- Assumes nothing.
use Prim.Native.Nat.{◌-◌}
use Rattle.index.proofs.KeptHalf.{Halving}
use Rattle.index.proofs.finding.seek.Given as goal

abbrev pub invariant-loop-low : goal.invariant-loop-low
invariant-loop-low l = Halving l.codes l.named l.code l.low l.high

abbrev pub decreases-loop-low : goal.decreases-loop-low
decreases-loop-low l = l.high - l.low
