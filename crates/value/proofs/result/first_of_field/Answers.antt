-- `value::result::first_of_field` meets its contract. The loop's invariant: the first of the rows
-- that are left is the first of all.
-- Assumes nothing.
use mathlib.Core.Bool.{Bool}
use Prim.Native.Nat.{ℕ}
use Rattle.value.specs.Results.{value_field, of_field}
use Rattle.value.proofs.FieldLeaves.{of_the_field, other_field, other-segment}
use Rattle.value.proofs.FirstPassing.{sought_found, sought_on, sought_done}
use Rattle.value.proofs.result.first_of_field.Goals as goal
use Rattle.value.proofs.result.first_of_field.Goals.{
  Start,
  else-leaves-at-eq-VALUE-via-then-leaves-at-eq-VALUE+else-leaves-at,
  else-leaves-at-eq-VALUE-via-else-leaves-at-eq-VALUE,
}

-- the test of the rows that are searched
abbrev test_at : Start → ℕ → Bool
test_at c = of_field c.args.leaves.now c.args.segment value_field

pub returns-then-leaves-at : goal.returns-then-leaves-at
returns-then-leaves-at c =
    sought_found (test_at (goal.at.returns-then-leaves-at c).Start) c.loop-row.invariant c.loop-row-test.true
    (of_the_field c.args.leaves.now c.args.segment value_field c.loop-row.row c.if-leaves-at-eq-VALUE.true c.if-leaves-at.true)

pub loop-row-preserved : goal.loop-row-preserved
loop-row-preserved c =
    sought_on (test_at (goal.at.loop-row-preserved c).Start) c.loop-row.invariant c.loop-row-test.true
    (elim c.else-leaves-at-eq-VALUE.branch [
      | else-leaves-at-eq-VALUE-via-then-leaves-at-eq-VALUE+else-leaves-at w ↦
          other-segment c.args.leaves.now c.args.segment value_field c.loop-row.row w.if-leaves-at.false
      | else-leaves-at-eq-VALUE-via-else-leaves-at-eq-VALUE w ↦
          other_field c.args.leaves.now c.args.segment value_field c.loop-row.row w.if-leaves-at-eq-VALUE.false
    ])

pub returns : goal.returns
returns c = sought_done (test_at (goal.at.returns c).Start) c.loop-row.invariant c.loop-row-test.false
