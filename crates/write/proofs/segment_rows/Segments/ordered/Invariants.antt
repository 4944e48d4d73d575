-- `write::segment_rows::Segments::ordered` meets its contract. The loop's invariant: the watcher has said yes to the kinds so far.
-- Assumes nothing.
use Rattle.write.proofs.Columns.{Ordering}
use Rattle.write.proofs.segment_rows.Segments.ordered.Given as goal

abbrev pub invariant-loop-i : goal.invariant-loop-i
invariant-loop-i l = Ordering l.context l.self.rows.now l.self.count l.i l.watcher
