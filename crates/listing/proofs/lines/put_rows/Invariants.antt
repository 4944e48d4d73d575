-- `listing::lines::put_rows` meets its contract: the lines of the rows before stand, and the next one comes behind them.
-- Assumes nothing.
use Rattle.listing.proofs.RowLines.{Rows}
use Rattle.listing.proofs.lines.put_rows.Given as goal

abbrev pub invariant-loop-i : goal.invariant-loop-i
invariant-loop-i l = Rows l.segments l.initial.pen l.pen l.i
