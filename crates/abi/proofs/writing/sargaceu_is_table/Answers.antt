-- `abi::writing::sargaceu_is_table` meets its contract: the table test of the card that came in.
-- Assumes nothing.
use mathlib.Core.Path.{ap₂, ◌∙◌}
use Rattle.form.specs.declared.forms.Form.{Form}
use Rattle.form.specs.Forms.{limits_of}
use Rattle.order.specs.Owners.{level}
use Rattle.table.specs.declared.Card.{Card}
use Rattle.table.specs.Lent.{lent}
use Rattle.write.specs.inner.ReadsBack.{is_table}
use Rattle.abi.proofs.writing.sargaceu_is_table.Goals as goal

pub returns : goal.returns
returns c =
    c.is_table.ensures
    ∙ ap₂ (λ (f : Form) (k : Card). is_table (limits_of f) level (lent k c.args.segments.now c.args.leaves.now c.args.text.now)) c.form_of.ensures
    c.card_of.ensures
