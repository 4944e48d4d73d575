-- `look::leaf::first_leaf` meets its contract. The loop's invariant: what is left of the rows gives what all of them give.
-- Assumes nothing.
use Rattle.look.specs.declared.leaf.Place.{Place}
use Rattle.look.specs.inner.Searching.{Tells}
use Rattle.look.proofs.Seeking.{Seeking}
use Rattle.look.proofs.leaf.first_leaf.Given as goal

abbrev pub invariant-loop-row : goal.invariant-loop-row
invariant-loop-row g l = (p : Place) → Tells (goal.F-post g l.has_place) l.leaves p → Seeking l.leaves l.bytes p l.from l.to l.row
