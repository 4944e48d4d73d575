-- `value::result::first_of_field` meets its contract. The loop's invariant: the first of the rows
-- that are left is the first of all.
-- Assumes nothing.
use Rattle.value.specs.Results.{value_field, of_field}
use Rattle.value.proofs.FirstPassing.{Sought}
use Rattle.value.proofs.result.first_of_field.Given as goal

abbrev pub invariant-loop-row : goal.invariant-loop-row
invariant-loop-row l = Sought (of_field l.leaves l.segment value_field) l.from l.to l.row
