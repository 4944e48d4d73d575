-- `write::leaf_rows::Leaves::field_leaf` meets its contract. The loop's invariant: the leaves that are left give the field.
-- Assumes nothing.
use Rattle.write.proofs.SegmentTests.{Seeking}
use Rattle.write.proofs.leaf_rows.Leaves.field_leaf.Given as goal

abbrev pub invariant-loop-i : goal.invariant-loop-i
invariant-loop-i l = Seeking l.self.rows.now l.field l.first l.end l.i
