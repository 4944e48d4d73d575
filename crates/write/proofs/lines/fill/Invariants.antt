-- `write::lines::fill` meets its contract: what is left to copy gives the whole.
-- Assumes nothing.
use Rattle.write.proofs.TextLeft.{Copying}
use Rattle.write.proofs.lines.fill.Given as goal

abbrev pub invariant-loop-i : goal.invariant-loop-i
invariant-loop-i l = Copying l.text l.initial.output l.at l.output l.i
