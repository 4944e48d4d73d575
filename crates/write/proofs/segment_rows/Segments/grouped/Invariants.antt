-- `write::segment_rows::Segments::grouped` meets its contract. The loop's invariant: the rows that are left give the whole, and the next segment begins in
-- field 1.
-- Assumes nothing.
use Rattle.write.proofs.Groups.{Grouping, FieldOne}
use Rattle.write.proofs.segment_rows.Segments.grouped.Given as goal

abbrev pub invariant-loop-i : goal.invariant-loop-i
invariant-loop-i l = Grouping l.self.rows.now l.self.count l.leaves.rows.now l.leaves.text.now l.leaves.count l.i l.first × FieldOne l.leaves.rows.now l.leaves.count l.first
