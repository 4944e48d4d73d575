-- `write::leaf_rows::Leaves::alone` meets its contract. One law a return.
-- Assumes nothing.
use Rattle.write.proofs.SegmentTests.{field_last, field_alone, field_twice}
use Rattle.write.proofs.leaf_rows.Leaves.alone.Goals as goal
use Rattle.write.proofs.leaf_rows.Leaves.alone.Goals.{else-next-end-via-then-next-end+else-self-next, else-next-end-via-else-next-end}

pub returns-then-self-next : goal.returns-then-self-next
returns-then-self-next c = field_twice c.requires c.if-next-end.true c.if-self-next.true

pub returns-else-next-end : goal.returns-else-next-end
returns-else-next-end c =
    elim c.else-next-end.branch [
      | else-next-end-via-then-next-end+else-self-next w ↦ field_alone c.requires w.if-next-end.true w.if-self-next.false
      | else-next-end-via-else-next-end w ↦ field_last c.requires w.if-next-end.false
    ]
