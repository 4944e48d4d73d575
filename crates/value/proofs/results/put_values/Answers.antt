-- `value::results::put_values` meets its contract. The loop's invariant: what is left to put gives the whole, in each of the three buffers.
-- The measure is the rows that are left. Assumes nothing.
use mathlib.Core.Path.{sym, ap, ◌∙◌, subst⁻¹}
use Prim.Native.Nat.{ℕ, suc, ◌≤◌}
use native.Mathlib.Omega.{arith}
use lib.ListN.{length}
use Rattle.laws.proofs.Passing.{FirstPassed}
use Rattle.table.specs.Lent.{Lent, lent}
use Rattle.value.specs.Numerals.{most_digits}
use Rattle.value.specs.Values.{with_sign}
use Rattle.value.specs.inner.Said.{told}
use Rattle.value.specs.Results.{is_numeric, numeric_rows}
use Rattle.value.proofs.FirstPassing.{first_found, none_passing}
use Rattle.value.proofs.NumberParts.{Small}
use Rattle.value.proofs.ResultsPut.{Answering, answering_begins, answering_on, answering_done, result_small, one_left}
use Rattle.value.proofs.SignedValues.{small_signs, bits_said, decimals_said}
use Rattle.value.proofs.results.put_values.Goals as goal
use Rattle.value.proofs.results.put_values.Goals.{After-value_said-value, In-Some, Start}

abbrev lent_here : Start → Lent
lent_here c = lent c.args.card c.args.segments.now c.args.leaves.now c.args.text.now

-- the row that was found is the first result that is left
first_here : (c : In-Some)
    → FirstPassed (is_numeric (lent_here (goal.at.In-Some c).Start) c.args.order) c.loop-row.from c.args.card.segments c.in-Some.row
first_here c =
    first_found (is_numeric (lent_here (goal.at.In-Some c).Start) c.args.order) c.loop-row.invariant.seen.within (sym c.in-Some.is ∙ c.next_result.ensures)

-- so there is one answer more to put
more_here : (c : In-Some)
    → suc c.loop-row.count
    ≤ length (numeric_rows (lent_here (goal.at.In-Some c).Start) c.args.order)
more_here c =
    one_left (lent_here (goal.at.In-Some c).Start) c.args.order c.loop-row.invariant.seen (first_here c)

-- what the result says is small
small_here : (c : After-value_said-value) → Small most_digits (told c.result_of.result)
small_here c =
    result_small most_digits (lent_here (goal.at.After-value_said-value c).Start) c.in-Some.row c.result_of.ensures

pub loop-row-init : goal.loop-row-init
loop-row-init c =
    subst⁻¹
    (λ (n : ℕ). Answering most_digits (lent_here (goal.at.loop-row-init c).Start) c.args.order c.args.numbers.now c.args.wholes.now c.args.decimals.now c.args.numbers.now c.args.wholes.now c.args.decimals.now 0 n)
    c.wide-from.ensures.0
    (answering_begins most_digits (lent_here (goal.at.loop-row-init c).Start) c.args.order c.args.numbers.now c.args.wholes.now c.args.decimals.now c.requires.rows)

pub next_result-requires : goal.next_result-requires
next_result-requires c = record { rows = c.requires.rows; behind = c.loop-row.invariant.seen.behind; within = c.loop-row.invariant.seen.within }

pub shape_of-numbers : goal.shape_of-numbers
shape_of-numbers c = c.loop-row.invariant.numbers-put.kept

pub shape_of-wholes : goal.shape_of-wholes
shape_of-wholes c = c.loop-row.invariant.wholes_put.kept

pub shape_of-decimals : goal.shape_of-decimals
shape_of-decimals c = c.loop-row.invariant.decimals-put.kept

pub returns : goal.returns
returns c =
    answering_done most_digits (lent_here (goal.at.returns c).Start) c.args.order c.args.numbers.now c.args.wholes.now c.args.decimals.now c.loop-row.invariant
    (none_passing (is_numeric (lent_here (goal.at.returns c).Start) c.args.order) c.loop-row.from c.args.card.segments (sym c.in_default.is ∙ c.next_result.ensures))

pub result_of-requires : goal.result_of-requires
result_of-requires c = record { table = c.requires.rows.table; counts = (first_here c).within }

pub value_said-value-requires : goal.value_said-value-requires
value_said-value-requires c =
    small_signs (result_small most_digits (lent_here (goal.at.value_said-value-requires c).Start) c.in-Some.row c.result_of.ensures)

pub bounds-numbers-count : goal.bounds-numbers-count
bounds-numbers-count c = omega (arith, more_here (goal.at.bounds-numbers-count c).In-Some, c.requires.numbers_hold, c.loop-row.invariant.numbers-put.kept)

pub offset_bounds-wholes-count : goal.offset_bounds-wholes-count
offset_bounds-wholes-count c = omega (arith, c.loop-row.invariant.seen.few, (first_here (goal.at.offset_bounds-wholes-count c).In-Some).later, (first_here (goal.at.offset_bounds-wholes-count c).In-Some).within, c.requires.rows.table.few)

pub bounds-wholes-count : goal.bounds-wholes-count
bounds-wholes-count c = omega (arith, more_here (goal.at.bounds-wholes-count c).In-Some, c.requires.wholes_hold, c.loop-row.invariant.wholes_put.kept)

pub overflow_cast-decimals : goal.overflow_cast-decimals
overflow_cast-decimals c =
    omega (arith, decimals_said (small_here (goal.at.overflow_cast-decimals c).After-value_said-value) c.value_said-value.ensures)

pub bounds-decimals-count : goal.bounds-decimals-count
bounds-decimals-count c = omega (arith, more_here (goal.at.bounds-decimals-count c).In-Some, c.requires.decimals_hold, c.loop-row.invariant.decimals-put.kept)

pub overflow_add-count : goal.overflow_add-count
overflow_add-count c = omega (arith, c.loop-row.invariant.seen.few, (first_here (goal.at.overflow_add-count c).In-Some).later, (first_here (goal.at.overflow_add-count c).In-Some).within)

pub overflow_add-from : goal.overflow_add-from
overflow_add-from c = omega (arith, (first_here (goal.at.overflow_add-from c).In-Some).within)

pub loop-row-smaller : goal.loop-row-smaller
loop-row-smaller c = omega (arith, (first_here (goal.at.loop-row-smaller c).In-Some).within, (first_here (goal.at.loop-row-smaller c).In-Some).later)

pub loop-row-preserved : goal.loop-row-preserved
loop-row-preserved c =
    answering_on most_digits (lent_here (goal.at.loop-row-preserved c).Start) c.args.order c.args.numbers.now c.args.wholes.now c.args.decimals.now c.loop-row.invariant (first_here (goal.at.loop-row-preserved c).In-Some)
    (c.value_said-value.ensures ∙ ap with_sign c.result_of.ensures)
    (bits_said (small_here (goal.at.loop-row-preserved c).After-value_said-value) c.value_said-value.ensures)
