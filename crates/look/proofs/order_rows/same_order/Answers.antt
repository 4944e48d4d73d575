-- `look::order_rows::same_order` meets its contract: by where the texts of the two orders lie.
-- Assumes nothing.
use mathlib.Core.Path.{◌≡◌, sym, ◌∙◌}
use Prim.Native.Nat.{◌+◌, ◌≤◌}
use native.Mathlib.Omega.{arith}
use lib.ListN.{length}
use Rattle.table.specs.Lent.{Lent, lent}
use Rattle.look.specs.declared.leaf.Sought.TheVariants.{At}
use Rattle.look.specs.inner.Ordering.{order_text}
use Rattle.look.proofs.Orders.{order-within, both_with_text, first_without, second_without}
use Rattle.look.proofs.order_rows.same_order.Goals as goal
use Rattle.look.proofs.order_rows.same_order.Goals.{After-order_text, In-At, In-At-other}

-- the two tables that are lent
abbrev one : After-order_text → Lent
one c = lent c.args.card c.args.segments.now c.args.leaves.now c.args.text.now

abbrev other : After-order_text → Lent
other c = lent c.args.other_card c.args.other_segments.now c.args.other_leaves.now c.args.other_text.now

-- each order's text is found, within its text area
found : (c : In-At) → order_text (one (goal.at.In-At c).After-order_text) c.args.row ≡ At c.in-At.start c.in-At.length
found c = sym c.order_text.ensures ∙ c.in-At.is

within : (c : In-At) → c.in-At.start + c.in-At.length ≤ length c.args.text.now
within c = order-within (one (goal.at.In-At c).After-order_text) c.args.row c.in-At.start c.in-At.length (found c)

other-found : (c : In-At-other) → order_text (other (goal.at.In-At-other c).After-order_text) c.args.other_row
    ≡ At c.in-At-other.other_start c.in-At-other.other_length
other-found c = sym c.order_text-other.ensures ∙ c.in-At-other.is

other-within : (c : In-At-other) → c.in-At-other.other_start + c.in-At-other.other_length ≤ length c.args.other_text.now
other-within c =
    order-within (other (goal.at.In-At-other c).After-order_text) c.args.other_row c.in-At-other.other_start c.in-At-other.other_length
    (other-found c)

pub overflow_add-start : goal.overflow_add-start
overflow_add-start c = omega (arith, c.well_formed, within (goal.at.overflow_add-start c).In-At)

pub overflow_add-other_start : goal.overflow_add-other_start
overflow_add-other_start c = omega (arith, c.well_formed, other-within (goal.at.overflow_add-other_start c).In-At-other)

pub slice_bounds-same_bytes-end : goal.slice_bounds-same_bytes-end
slice_bounds-same_bytes-end c = omega (arith, within (goal.at.slice_bounds-same_bytes-end c).In-At)

pub slice_bounds-same_bytes-end-2 : goal.slice_bounds-same_bytes-end-2
slice_bounds-same_bytes-end-2 c = omega (arith, other-within (goal.at.slice_bounds-same_bytes-end-2 c).In-At-other)

pub returns-in_default : goal.returns-in_default
returns-in_default c =
    let places = (goal.at.returns-in_default c).After-order_text in
    first_without (one places) c.args.row (other places) c.args.other_row (λ a n e. c.in_default.not-At a n (c.order_text.ensures ∙ e))

pub returns-in_default-other : goal.returns-in_default-other
returns-in_default-other c =
    let places = (goal.at.returns-in_default-other c).After-order_text in
    second_without (one places) c.args.row (other places) c.args.other_row
    (λ b m e. c.in_default-other.not-At b m (c.order_text-other.ensures ∙ e))

pub returns : goal.returns
returns c =
    let places = (goal.at.returns c).After-order_text in
    c.same_bytes.ensures
    ∙ both_with_text (one places) c.args.row (other places) c.args.other_row c.in-At.start c.in-At.length c.in-At-other.other_start
    c.in-At-other.other_length (found (goal.at.returns c).In-At) (other-found (goal.at.returns c).In-At-other)
