-- `look::row::next_row` meets its contract. The loop's invariant: what is left of the rows gives what all after the given one give.
-- Assumes nothing.
use Rattle.look.proofs.RowSearch.{RowSearch}
use Rattle.look.proofs.row.next_row.Given as goal

abbrev pub invariant-loop-row : goal.invariant-loop-row
invariant-loop-row l = RowSearch l.segments l.fn.card.segments l.after l.kind l.owner l.row
