-- `look::order_rows::order_text` meets its contract: an order's text is what `find_leaf` finds.
-- Assumes nothing.
use mathlib.Core.Path.{sym, ◌∙◌}
use Rattle.table.specs.Lent.{lent}
use Rattle.look.specs.Looking.{order_place}
use Rattle.look.proofs.Orders.{order-text, no_order}
use Rattle.look.proofs.order_rows.order_text.Goals as goal

pub returns-then-not-is_order : goal.returns-then-not-is_order
returns-then-not-is_order c =
    sym (no_order (lent c.args.card c.args.segments.now c.args.leaves.now c.args.text.now) c.args.row
    (sym c.is_order.ensures ∙ c.if-not-is_order.true))

pub returns : goal.returns
unfolding order_place
returns c =
    c.find_leaf.ensures
    ∙ sym (order-text (lent c.args.card c.args.segments.now c.args.leaves.now c.args.text.now) c.args.row
    (sym c.is_order.ensures ∙ c.if-not-is_order.false))
