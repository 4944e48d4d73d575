-- `source::row::row_from` meets its contract: by what `line_at` finds, and the addenda behind it.
-- Assumes nothing.
use mathlib.Core.Path.{sym, ap, ◌∙◌}
use Prim.Native.Nat.{◌+◌}
use native.Mathlib.Omega.{arith}
use Rattle.form.specs.Forms.{small_form}
use Rattle.source.specs.declared.row.LineRun.{LineRun}
use Rattle.source.proofs.Going.{one, lines_none}
use Rattle.source.proofs.Placing.{row_line}
use Rattle.source.proofs.row.row_from.Goals as goal

pub overflow_add-result : goal.overflow_add-result
overflow_add-result c = omega (arith, c.addenda_at-behind.ensures.1)

pub returns-in_default : goal.returns-in_default
returns-in_default c =
    lines_none small_form one c.args.message.now c.args.at (λ e n h. c.in_default.not-Line e n (c.line_at.ensures ∙ h))

pub returns : goal.returns
returns c = (
  ap {B = LineRun} (λ (r : LineRun). record { lines = r.lines + 1; next = r.next }) c.addenda_at-behind.ensures.0
      ∙ sym (row_line small_form one c.args.field c.args.message.now c.args.at c.in-Line.end c.in-Line.next (sym c.line_at.ensures ∙ c.in-Line.is)),
  omega arith,
)
