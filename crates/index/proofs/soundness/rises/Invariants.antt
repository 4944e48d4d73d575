-- `index::soundness::rises` meets its contract: what is left rises exactly where all do. The measure is how far the last place is.
-- Assumes nothing.
use Prim.Native.Nat.{◌-◌, ◌*◌}
use Rattle.index.specs.Index.{place_size}
use Rattle.index.proofs.Followed.{StillRising}
use Rattle.index.proofs.soundness.rises.Given as goal

abbrev pub invariant-loop-at : goal.invariant-loop-at
invariant-loop-at l = StillRising l.codes (l.named - 1) l.at

abbrev pub decreases-loop-at : goal.decreases-loop-at
decreases-loop-at l = (l.named - 1) * place_size - l.at
