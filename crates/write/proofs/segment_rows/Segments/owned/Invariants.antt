-- `write::segment_rows::Segments::owned` meets its contract. The loop's invariant: what is known of the rows so far, and their owners are right.
-- Assumes nothing.
use Rattle.order.specs.inner.Levels.{level_in}
use Rattle.write.proofs.Columns.{Owning}
use Rattle.write.proofs.segment_rows.Segments.owned.Given as goal

abbrev pub invariant-loop-i : goal.invariant-loop-i
invariant-loop-i l = Owning (level_in l.table l.context) l.self.rows.now l.self.count l.i l.nearest
