-- `read::fill::fill` meets its contract: the header's rest is the first line, each turn fills one, and at the message's end the buffers hold the table.
-- Assumes nothing.
use Prim.Native.Nat.{◌-◌}
use lib.ListN.{length}
use Rattle.read.specs.inner.Segments.{Onward}
use Rattle.read.proofs.fill.fill.Given as goal

abbrev pub invariant-loop-from : goal.invariant-loop-from
invariant-loop-from l = Onward l.accepted.class.now l.accepted.kinds.now l.levels l.accepted.decision.context l.accepted.decision.separators l.accepted.message.now l.initial.from l.initial.filling l.initial.nearest l.initial.text l.initial.segments l.initial.leaves l.from l.filling l.nearest l.text l.segments l.leaves

abbrev pub decreases-loop-from : goal.decreases-loop-from
decreases-loop-from l = length l.accepted.message.now - l.from
