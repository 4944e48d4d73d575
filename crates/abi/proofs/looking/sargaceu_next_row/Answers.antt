-- `abi::looking::sargaceu_next_row` meets its contract: the row after, by the count of the card that came in.
-- Assumes nothing.
use mathlib.Core.Path.{ap, ◌∙◌}
use Rattle.table.specs.declared.Card.{Card}
use Rattle.look.specs.inner.Searching.{row_after}
use Rattle.abi.proofs.looking.sargaceu_next_row.Goals as goal

pub returns : goal.returns
returns c = c.next_row.ensures ∙ ap (λ (k : Card). row_after c.args.segments.now k.segments c.args.after c.args.kind c.args.owner) c.card_of.ensures
