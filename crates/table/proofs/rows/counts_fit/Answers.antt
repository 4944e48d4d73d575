-- `table::rows::counts_fit` meets its contract: the first count that goes past its buffer, or the last one, decides.
-- Assumes nothing.
use mathlib.Core.Path.{◌∙◌}
use native.Mathlib.Omega.{arith}
use Rattle.table.proofs.Lent.{leaves_divided, segments_past, text_past, leaves_decide}
use Rattle.table.proofs.rows.counts_fit.Goals as goal

pub returns-then-segments-card : goal.returns-then-segments-card
returns-then-segments-card c =
    let a = c.args in
    segments_past a.card a.segments a.leaves a.text (omega arith)

pub returns-then-text-card : goal.returns-then-text-card
returns-then-text-card c =
    let a = c.args in
    text_past a.card a.segments a.leaves a.text (omega arith) (omega arith)

pub returns : goal.returns
returns c =
    let a = c.args in
    leaves_divided a.card.leaves a.leaves ∙ leaves_decide a.card a.segments a.leaves a.text (omega arith) (omega arith)
