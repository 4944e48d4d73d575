-- `write::lines::Lines::put_leaves` meets its contract: each turn puts a leaf and the separator after it, and what is left of the rows gives the
-- whole.
-- Assumes nothing.
use Rattle.write.specs.inner.Filling.{stand}
use Rattle.write.proofs.LeavesLeft.{LeavesLeft}
use Rattle.write.proofs.lines.Lines.put_leaves.Given as goal

abbrev pub invariant-loop-row : goal.invariant-loop-row
invariant-loop-row l = LeavesLeft l.self.separators l.leaves.rows.now l.leaves.count l.leaves.text.now l.self.limits (stand l.initial.output l.initial.going) (stand l.output l.going) l.row l.from
