-- `value::results::next_result` meets its contract. The loop's invariant: the first of the rows
-- that are left is the first of all.
-- Assumes nothing.
use Rattle.table.specs.Lent.{lent}
use Rattle.value.specs.Results.{is_numeric}
use Rattle.value.proofs.FirstPassing.{Sought}
use Rattle.value.proofs.results.next_result.Given as goal

abbrev pub invariant-loop-row : goal.invariant-loop-row
invariant-loop-row l = Sought (is_numeric (lent l.card l.segments l.leaves l.text) l.order) l.from l.card.segments l.row
