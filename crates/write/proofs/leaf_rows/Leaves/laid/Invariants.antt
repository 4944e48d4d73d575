-- `write::leaf_rows::Leaves::laid` meets its contract. The loop's invariant: the rows up to here are laid out.
-- Assumes nothing.
use Rattle.write.proofs.LaidRows.{Laying}
use Rattle.write.proofs.leaf_rows.Leaves.laid.Given as goal

abbrev pub invariant-loop-i : goal.invariant-loop-i
invariant-loop-i l = Laying l.self.rows.now l.finish l.self.count l.i l.start
