-- `look::row::next_row` meets its contract. The loop's invariant: what is left of the rows gives what all after the given one give.
-- Assumes nothing.
use mathlib.Core.Path.{sym, ◌∙◌}
use Rattle.look.proofs.RowSearch.{rows_past, other-kind, other-owner, row-found, no_row}
use Rattle.look.proofs.row.next_row.Goals as goal
use Rattle.look.proofs.row.next_row.Goals.{else-segments-at-via-then-segments-at+else-segments-at-2, else-segments-at-via-else-segments-at}

pub returns-then-not-segments_fit : goal.returns-then-not-segments_fit
returns-then-not-segments_fit c =
    rows_past c.args.segments.now c.args.card.segments c.args.after c.args.kind c.args.owner
    (sym c.segments_fit.ensures ∙ c.if-not-segments_fit.true)

pub returns : goal.returns
returns c = no_row c.loop-row.invariant c.loop-row-test.false

pub returns-then-segments-at-2 : goal.returns-then-segments-at-2
returns-then-segments-at-2 c = row-found c.loop-row.invariant c.loop-row-test.true c.if-segments-at.true c.if-segments-at-2.true

pub loop-row-preserved : goal.loop-row-preserved
loop-row-preserved c =
    elim c.else-segments-at.branch [
      | else-segments-at-via-then-segments-at+else-segments-at-2 w ↦
          other-owner c.loop-row.invariant c.loop-row-test.true w.if-segments-at-2.false
      | else-segments-at-via-else-segments-at w ↦ other-kind c.loop-row.invariant c.loop-row-test.true w.if-segments-at.false
    ]
