-- `abi::looking::sargaceu_same_order` meets its contract: the same order, by the two cards that came in.
-- Assumes nothing.
use mathlib.Core.Path.{ap₂, ◌∙◌}
use Rattle.table.specs.declared.Card.{Card}
use Rattle.table.specs.Lent.{lent}
use Rattle.look.specs.inner.Searching.{same_order}
use Rattle.abi.proofs.looking.sargaceu_same_order.Goals as goal

pub returns : goal.returns
returns c =
    c.same_order.ensures
    ∙ ap₂ (λ (k l : Card). same_order (lent k c.args.segments.now c.args.leaves.now c.args.text.now) c.args.row
    (lent l c.args.other_segments.now c.args.other_leaves.now c.args.other_text.now) c.args.other_row)
    c.card_of.ensures c.card_of-2.ensures
