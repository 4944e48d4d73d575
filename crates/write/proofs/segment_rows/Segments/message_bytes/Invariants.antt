-- `write::segment_rows::Segments::message_bytes` meets its contract. The loop's invariant: the rows so far state the segments of the leaves so far, and
-- the bytes counted and those of the segments left are all.
-- Assumes nothing.
use Rattle.write.proofs.Groups.{Grouping}
use Rattle.write.proofs.WrittenCount.{Counting}
use Rattle.write.proofs.segment_rows.Segments.message_bytes.Given as goal

abbrev pub invariant-loop-i : goal.invariant-loop-i
invariant-loop-i l = Grouping l.self.rows.now l.self.count l.leaves.rows.now l.leaves.text.now l.leaves.count l.i l.first × Counting l.limits l.leaves.rows.now l.leaves.text.now l.leaves.count l.first l.total
