-- `value::results::count_results` meets its contract. The loop's invariant: what is left gives the whole count.
-- The measure is the rows that are left. Assumes nothing.
use mathlib.Core.Path.{sym, ◌∙◌, subst⁻¹}
use Prim.Native.Nat.{ℕ}
use native.Mathlib.Omega.{arith}
use Rattle.laws.proofs.Passing.{FirstPassed}
use Rattle.table.specs.Lent.{Lent, lent}
use Rattle.value.specs.Results.{is_numeric}
use Rattle.value.proofs.FirstPassing.{first_found, none_passing}
use Rattle.value.proofs.ResultsPut.{ResultsSeen, seen-begins, seen_on, seen_done}
use Rattle.value.proofs.results.count_results.Goals as goal
use Rattle.value.proofs.results.count_results.Goals.{In-Some, Start}

abbrev lent_here : Start → Lent
lent_here c = lent c.args.card c.args.segments.now c.args.leaves.now c.args.text.now

-- the row that was found is the first result that is left
first_here : (c : In-Some)
    → FirstPassed (is_numeric (lent_here (goal.at.In-Some c).Start) c.args.order) c.loop-row.from c.args.card.segments c.in-Some.row
first_here c =
    first_found (is_numeric (lent_here (goal.at.In-Some c).Start) c.args.order) c.loop-row.invariant.within (sym c.in-Some.is ∙ c.next_result.ensures)

pub loop-row-init : goal.loop-row-init
loop-row-init c = subst⁻¹ (λ (n : ℕ). ResultsSeen (lent_here (goal.at.loop-row-init c).Start) c.args.order n 0) c.wide-from.ensures.0 (seen-begins (lent_here (goal.at.loop-row-init c).Start) c.args.order c.requires)

pub next_result-requires : goal.next_result-requires
next_result-requires c = record { rows = c.requires; behind = c.loop-row.invariant.behind; within = c.loop-row.invariant.within }

pub overflow_add-count : goal.overflow_add-count
overflow_add-count c = omega (arith, c.loop-row.invariant.few, (first_here c).later, (first_here c).within)

pub overflow_add-from : goal.overflow_add-from
overflow_add-from c = omega (arith, (first_here c).within)

pub loop-row-smaller : goal.loop-row-smaller
loop-row-smaller c = omega (arith, (first_here c).within, (first_here c).later)

pub loop-row-preserved : goal.loop-row-preserved
loop-row-preserved c = seen_on (lent_here (goal.at.loop-row-preserved c).Start) c.args.order c.loop-row.invariant (first_here c)

pub returns : goal.returns
returns c =
    seen_done (lent_here (goal.at.returns c).Start) c.args.order c.loop-row.invariant
    (none_passing (is_numeric (lent_here (goal.at.returns c).Start) c.args.order) c.loop-row.from c.args.card.segments (sym c.in_default.is ∙ c.next_result.ensures))
