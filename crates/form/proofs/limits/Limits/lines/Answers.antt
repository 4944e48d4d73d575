-- `Limits::lines` meets its contract: what is tested first is that the limits are lawful.
-- Assumes nothing.
use native.Mathlib.Omega.{arith}
use mathlib.Core.Path.{◌∙◌, sym}
use Rattle.form.proofs.LineCount.{lines-short, lines_other, lines-lawful}
use Rattle.form.proofs.limits.Limits.lines.Goals as goal

pub returns-then-self-lt7 : goal.returns-then-self-lt7
returns-then-self-lt7 c =
    let at-args = c.args in
    let at-if1 = c.if-self-lt7 in
    sym (lines-short at-args.self at-args.bytes at-if1.true)

pub returns-then-self : goal.returns-then-self
returns-then-self c =
    let at-args = c.args in
    let at-if2 = c.if-self in
    sym (lines_other at-args.self at-args.bytes (λ e. at-if2.true (omega arith)))

pub line_count-requires : goal.line_count-requires
line_count-requires c = record { addendum = omega arith; header = omega arith }

pub returns : goal.returns
returns c =
    let at-line-count = c.line_count in
    let at-args = c.args in
    at-line-count.ensures ∙ sym (lines-lawful at-args.self at-args.bytes (omega arith) (omega arith))
