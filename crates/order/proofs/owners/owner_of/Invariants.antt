-- `order::owners::owner_of` meets its contract. The loop's invariant: what is still to be written gives what is to be known.
-- The measure is the places that are left. Assumes nothing.
use Prim.Native.Nat.{◌-◌}
use Rattle.order.proofs.Nearest.{Writing}
use Rattle.order.proofs.owners.owner_of.Given as goal

abbrev pub invariant-loop-next : goal.invariant-loop-next
invariant-loop-next l = Writing l.initial.nearest l.place l.row l.nearest l.next

abbrev pub decreases-loop-next : goal.decreases-loop-next
decreases-loop-next l = 9 - l.next
