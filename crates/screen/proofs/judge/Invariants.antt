-- `screen::judge` meets its contract. The loop's invariant: the rows so far fail no rule below the lowest, and its row is the first that fails it.
-- Assumes nothing.
use Rattle.table.specs.Lent.{lent}
use Rattle.screen.proofs.LowestRule.{LowestKept}
use Rattle.screen.proofs.judge.Given as goal

abbrev pub invariant-loop-row : goal.invariant-loop-row
invariant-loop-row l = LowestKept (lent l.card l.segments l.leaves l.text) l.row l.lowest
