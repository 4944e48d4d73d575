-- `archive::owned::put_rows` meets its contract: the rows from here on, put into the buffer as it stands, give what all of them give.
-- Assumes nothing.
use Rattle.order.specs.inner.Levels.{level_in}
use Rattle.archive.proofs.OwnedRows.{PuttingRows}
use Rattle.archive.proofs.owned.put_rows.Given as goal

abbrev pub invariant-loop-i : goal.invariant-loop-i
invariant-loop-i l = PuttingRows (level_in l.table l.context) l.segments l.many l.initial.to l.to l.nearest l.i
