-- `source::row::behind_addendum` meets its contract: by what `line_at` finds, and by whether that line is an addendum.
-- Assumes nothing.
use mathlib.Core.Path.{sym, ◌∙◌}
use Prim.Native.Nat.{◌<◌, ◌≤◌}
use native.Mathlib.Omega.{arith}
use lib.ListN.{length}
use Rattle.form.specs.Forms.{small_form}
use Rattle.line.proofs.Handing.{line-within}
use Rattle.source.proofs.Going.{behind_carrying, behind_beginning, behind_no_line}
use Rattle.source.proofs.row.behind_addendum.Goals as goal
use Rattle.source.proofs.row.behind_addendum.Goals.{In-Line}

-- where the line that was found lies
line_here : (c : In-Line) → (c.args.at < c.in-Line.end)
    × (c.in-Line.end < c.in-Line.next)
    × (c.in-Line.next ≤ length c.args.message.now)
line_here c = line-within small_form c.args.message.now c.args.at c.in-Line.end c.in-Line.next (sym c.line_at.ensures ∙ c.in-Line.is)

pub slice_bounds-is_addendum-count : goal.slice_bounds-is_addendum-count
slice_bounds-is_addendum-count c = omega (arith, line_here c)

pub slice_bounds-is_addendum-start : goal.slice_bounds-is_addendum-start
slice_bounds-is_addendum-start c = omega (arith, line_here c)

pub slice_bounds-is_addendum-end : goal.slice_bounds-is_addendum-end
slice_bounds-is_addendum-end c = omega (arith, line_here c)

pub returns-then-is_addendum : goal.returns-then-is_addendum
returns-then-is_addendum c =
    sym (behind_carrying c.args.field c.args.message.now c.args.at c.in-Line.end c.in-Line.next
    (sym c.line_at.ensures ∙ c.in-Line.is) (sym c.is_addendum.ensures ∙ c.if-is_addendum.true))

pub returns-else-is_addendum : goal.returns-else-is_addendum
returns-else-is_addendum c =
    sym (behind_beginning c.args.field c.args.message.now c.args.at c.in-Line.end c.in-Line.next
    (sym c.line_at.ensures ∙ c.in-Line.is) (sym c.is_addendum.ensures ∙ c.if-is_addendum.false))

pub returns-in_default : goal.returns-in_default
returns-in_default c =
    sym (behind_no_line _ c.args.field c.args.message.now c.args.at (λ e n h. c.in_default.not-Line e n (c.line_at.ensures ∙ h)))
