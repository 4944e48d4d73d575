-- `screen::codes::count_codes` meets its contract. The loop's invariant: no patient came yet, and what is counted with what is left gives the whole.
-- Assumes nothing.
use mathlib.Core.Path.{sym, ap, ◌∙◌}
use native.Mathlib.Omega.{arith}
use Rattle.table.specs.Lent.{Lent, lent}
use Rattle.tested.proofs.NamedLeaves.{row_inside}
use Rattle.screen.specs.inner.Codes.{code_number}
use Rattle.screen.proofs.CodesCounted.{counting_on, counting_none, counted_patient, counted-all, count_small, code_placed}
use Rattle.screen.proofs.codes.count_codes.Goals as goal
use Rattle.screen.proofs.codes.count_codes.Goals.{Start, in-Some, in_default}

abbrev lent_here : Start → Lent
lent_here c = lent c.args.card c.args.segments.now c.args.leaves.now c.args.text.now

pub bounds-segments-row : goal.bounds-segments-row
bounds-segments-row c =
    omega (arith, row_inside (lent_here (goal.at.bounds-segments-row c).Start) c.requires.report.table c.loop-row.row c.loop-row-test.true)

pub returns-then-segments-row : goal.returns-then-segments-row
returns-then-segments-row c =
    counted_patient (lent_here (goal.at.returns-then-segments-row c).Start) c.args.from c.loop-row.invariant c.loop-row-test.true c.if-segments-row.true

pub overflow_add-counts : goal.overflow_add-counts
overflow_add-counts c =
    omega (
      arith,
      count_small (lent_here (goal.at.overflow_add-counts c).Start) c.args.from c.loop-row.invariant c.requires.within c.place.result (rw c.place.ensures (code_placed c.in-Some.code)),
      c.requires.report.table.few,
    )

pub loop-row-preserved : goal.loop-row-preserved
loop-row-preserved c =
    let here = lent_here (goal.at.loop-row-preserved c).Start in
    elim c.match-code_in.branch [
      | in-Some w ↦
          rw w.counts-is
          (counting_on here c.args.from c.loop-row.invariant c.loop-row-test.true c.if-segments-row.false
          (w.place.ensures ∙ ap code_number (sym w.in-Some.is) ∙ c.code_in.ensures))
      | in_default w ↦
          rw w.counts-is
          (counting_none here c.args.from c.loop-row.invariant c.loop-row-test.true c.if-segments-row.false
          (ap code_number (sym w.in_default.is) ∙ c.code_in.ensures))
    ]

pub returns : goal.returns
returns c = counted-all (lent_here (goal.at.returns c).Start) c.args.from c.loop-row.invariant c.loop-row-test.false
