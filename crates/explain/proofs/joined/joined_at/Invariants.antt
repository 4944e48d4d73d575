-- `explain::joined::joined_at` gives a byte that stands at the place or behind it, before the row's
-- end. The loop goes on from the place. The measure is how much of the row is left.
-- Assumes nothing.
use Prim.Native.Nat.{◌≤◌, ◌-◌}
use Rattle.explain.proofs.joined.joined_at.Given as goal

abbrev pub invariant-loop-place : goal.invariant-loop-place
invariant-loop-place l = l.at ≤ l.place

abbrev pub decreases-loop-place : goal.decreases-loop-place
decreases-loop-place l = l.end - l.place
