-- `source::row::row_at` meets its contract: it is `row_from` by the message's own field separator.
-- Assumes nothing.
use mathlib.Core.Path.{ap, ◌∙◌}
use Prim.Native.Nat.{ℕ}
use Rattle.form.specs.Forms.{small_form}
use Rattle.source.specs.Places.{row_by, row_at}
use Rattle.source.proofs.Going.{one}
use Rattle.source.proofs.Placing.{run_or}
use Rattle.source.proofs.row.row_at.Goals as goal

pub returns : goal.returns
unfolding row_at
returns c =
    c.unwrap_or.ensures
    ∙ run_or small_form one c.field_of.result c.args.message.now c.args.at c.row_from.result c.row_from.ensures
    ∙ ap (λ (f : ℕ). row_by small_form f c.args.message.now c.args.at) c.field_of.ensures
