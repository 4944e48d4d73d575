-- What the same-order test compares.
-- Assumes nothing.
use Rattle.std.specs.Prelude.{true, false, ℕ}
use Rattle.table.specs.Lent.{Lent}
use Rattle.look.specs.declared.leaf.Sought.{Sought}
use Rattle.look.specs.declared.leaf.Sought.TheVariants.{NotThere}
use Rattle.look.specs.Looking.{order_at, order_place}
use Rattle.look.specs.inner.Searching.{sought_in}

-- where the text of leaf 9.4.2 of an order lies; a row that is no order has none
unfoldable pub order_text : Lent → ℕ → Sought
order_text t row = elim (order_at t row) [ true ↦ sought_in t (order_place row) | false ↦ NotThere ]
