-- `read::fill::close_segment` meets its contract: the row of the last leaf, the owner by what is known, and the row of the segment.
-- Assumes nothing.
use native.Mathlib.Omega.{arith}
use Rattle.read.proofs.SegmentLaws.{closed_by}
use Rattle.read.proofs.fill.close_segment.Goals as goal

pub overflow_sub-row : goal.overflow_sub-row
overflow_sub-row c = omega (arith, c.requires)

pub level_here-requires : goal.level_here-requires
level_here-requires c =
    let pre = c.requires in
    (pre.some_context, pre.seven_contexts)

pub overflow_cast-filling : goal.overflow_cast-filling
overflow_cast-filling c =
    let pre = c.requires in
    omega (arith, pre.leaf.next.few, pre.some)

pub overflow_sub-next : goal.overflow_sub-next
overflow_sub-next c = omega (arith, c.requires)

pub overflow_cast-next : goal.overflow_cast-next
overflow_cast-next c = omega (arith, c.requires)

pub put_segment-requires : goal.put_segment-requires
put_segment-requires c = omega (arith, c.requires)

pub returns : goal.returns
returns c = closed_by c.level_here.ensures c.owner_of-owner.ensures c.put_leaf.ensures c.put_segment.ensures
