-- `look::order_rows::is_order` meets its contract: the first test that fails, or the kind, decides.
-- Assumes nothing.
use mathlib.Core.Bool.{false}
use mathlib.Core.Logic.{inl, inr}
use mathlib.Core.Path.{◌≡◌, sym, ◌∙◌}
use Prim.Native.Nat.{◌*◌}
use native.Mathlib.Omega.{arith}
use lib.ListN.{length}
use borrow.Author.Tests.{leb-true}
use Rattle.table.specs.Rows.{segment_row_size}
use Rattle.look.specs.Looking.{is_order}
use Rattle.look.proofs.Orders.{count_past, row_zero, row_past, kind_decides}
use Rattle.look.proofs.order_rows.is_order.Goals as goal

pub bounds-segments-number : goal.bounds-segments-number
bounds-segments-number c =
    omega (arith, leb-true (c.args.count * segment_row_size) (length c.args.segments.now) (sym c.segments_fit.ensures ∙ c.if-number-count.true.0))

pub returns-then-number-count : goal.returns-then-number-count
returns-then-number-count c =
    let t = c.if-number-count.true in
    kind_decides c.args.segments.now c.args.count c.args.row (sym c.segments_fit.ensures ∙ t.0) t.1 t.2

pub returns-else-number-count : goal.returns-else-number-count
returns-else-number-count c =
    let none : false ≡ is_order c.args.segments.now c.args.count c.args.row =
    elim c.if-number-count.either [
      | inl p ↦ row_past c.args.segments.now c.args.count c.args.row (sym c.segments_fit.ensures ∙ p.0) p.1 p.2
      | inr q ↦ elim q [
        | inl p ↦ row_zero c.args.segments.now c.args.count c.args.row (sym c.segments_fit.ensures ∙ p.0) p.1
        | inr e ↦ count_past c.args.segments.now c.args.count c.args.row (sym c.segments_fit.ensures ∙ e)
      ]
    ] in
    cc
