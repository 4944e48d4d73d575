-- `screen::codes::count_codes` meets its contract. The loop's invariant: no patient came yet, and what is counted with what is left gives the whole.
-- Assumes nothing.
use Rattle.table.specs.Lent.{lent}
use Rattle.screen.proofs.CodesCounted.{CountingCodes}
use Rattle.screen.proofs.codes.count_codes.Given as goal

abbrev pub invariant-loop-row : goal.invariant-loop-row
invariant-loop-row l = CountingCodes (lent l.card l.segments l.leaves l.text) l.from l.counts l.row
