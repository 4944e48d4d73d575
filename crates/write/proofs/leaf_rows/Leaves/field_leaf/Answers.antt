-- `write::leaf_rows::Leaves::field_leaf` meets its contract. The loop's invariant: the leaves that are left give the field.
-- Assumes nothing.
use native.Mathlib.Omega.{arith}
use Rattle.write.proofs.SegmentTests.{seeking_begins, seeking_found, seeking_on, seeking_done}
use Rattle.write.proofs.leaf_rows.Leaves.field_leaf.Goals as goal

pub loop-i-init : goal.loop-i-init
loop-i-init c = seeking_begins (omega arith)

pub returns-then-self-i : goal.returns-then-self-i
returns-then-self-i c = seeking_found c.loop-i.invariant c.alone.ensures

pub loop-i-preserved : goal.loop-i-preserved
loop-i-preserved c = seeking_on c.loop-i.invariant (omega arith) c.if-self-i.false

pub returns : goal.returns
returns c = seeking_done c.loop-i.invariant (omega arith)
