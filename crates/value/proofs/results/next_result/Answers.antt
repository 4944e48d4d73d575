-- `value::results::next_result` meets its contract. The loop's invariant: the first of the rows
-- that are left is the first of all. A row that belongs to an earlier one ends the order.
-- Assumes nothing.
use mathlib.Core.Bool.{Bool}
use mathlib.Core.Path.{sym, ◌∙◌}
use Prim.Native.Nat.{ℕ, ◌+◌, ◌*◌, ◌≤◌, ◌<◌}
use native.Mathlib.Omega.{arith}
use lib.ListN.{length}
use Rattle.table.specs.Lent.{Lent, lent}
use Rattle.table.specs.Rows.{segment_row_size}
use Rattle.tested.proofs.NamedLeaves.{row_inside}
use Rattle.value.specs.Results.{is_numeric}
use Rattle.value.proofs.FirstPassing.{sought_found, sought_on, sought_ends, sought_done}
use Rattle.value.proofs.NumericRows.{none-behind}
use Rattle.value.proofs.results.next_result.Goals as goal
use Rattle.value.proofs.results.next_result.Goals.{At-loop-row, Start}

-- the table that is lent, and the test of its rows
abbrev lent_here : Start → Lent
lent_here c = lent c.args.card c.args.segments.now c.args.leaves.now c.args.text.now

abbrev test_at : Start → ℕ → Bool
test_at c = is_numeric (lent_here c) c.args.order

-- a row of the loop lies within the buffer
inside : (c : At-loop-row) → c.loop-row.row < c.args.card.segments
    → c.loop-row.row * segment_row_size + segment_row_size ≤ length c.args.segments.now
inside c h = row_inside (lent_here (goal.at.At-loop-row c).Start) c.requires.rows.table c.loop-row.row h

pub bounds-segments-row : goal.bounds-segments-row
bounds-segments-row c = omega (arith, inside (goal.at.bounds-segments-row c).At-loop-row c.loop-row-test.true)

pub returns-then-segments-row : goal.returns-then-segments-row
returns-then-segments-row c =
    sought_ends (test_at (goal.at.returns-then-segments-row c).Start) c.loop-row.invariant
    (none-behind (lent_here (goal.at.returns-then-segments-row c).Start) c.args.order c.requires.rows c.loop-row.row (omega (arith, c.requires.behind, c.loop-row.auto.row))
    c.if-segments-row.true)

pub is_numeric-requires : goal.is_numeric-requires
is_numeric-requires c = record { table = c.requires.rows.table; counts = c.loop-row-test.true }

pub returns-then-is_numeric : goal.returns-then-is_numeric
returns-then-is_numeric c = sought_found (test_at (goal.at.returns-then-is_numeric c).Start) c.loop-row.invariant c.loop-row-test.true (sym c.is_numeric.ensures ∙ c.if-is_numeric.true)

pub loop-row-preserved : goal.loop-row-preserved
loop-row-preserved c = sought_on (test_at (goal.at.loop-row-preserved c).Start) c.loop-row.invariant c.loop-row-test.true (sym c.is_numeric.ensures ∙ c.if-is_numeric.false)

pub returns : goal.returns
returns c = sought_done (test_at (goal.at.returns c).Start) c.loop-row.invariant c.loop-row-test.false
