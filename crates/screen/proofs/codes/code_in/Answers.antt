-- `screen::codes::code_in` meets its contract: the kind, and then the code by the text of the leaf.
-- Assumes nothing.
use mathlib.Core.Path.{ap, ◌∙◌}
use native.Mathlib.Omega.{arith}
use Rattle.table.specs.Lent.{lent}
use Rattle.tested.proofs.NamedLeaves.{row_inside}
use Rattle.screen.specs.inner.Counting.{code_of}
use Rattle.screen.proofs.RowCodes.{no_result, code-text}
use Rattle.screen.proofs.codes.code_in.Goals as goal

pub bounds-segments-row : goal.bounds-segments-row
bounds-segments-row c =
    omega (arith, row_inside (lent c.args.card c.args.segments.now c.args.leaves.now c.args.text.now) c.requires.report.table c.args.row c.requires.counts)

pub returns-then-segments-row : goal.returns-then-segments-row
returns-then-segments-row c =
    no_result (lent c.args.card c.args.segments.now c.args.leaves.now c.args.text.now) c.args.row c.if-segments-row.true

pub returns : goal.returns
returns c =
    c.code_of.ensures ∙ ap code_of c.leaf_text.ensures
    ∙ code-text (lent c.args.card c.args.segments.now c.args.leaves.now c.args.text.now) c.args.row c.if-segments-row.false
