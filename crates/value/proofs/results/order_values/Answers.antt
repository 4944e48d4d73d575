-- `value::results::order_values` meets its contract: the tests in their order, and then the answers.
-- Assumes nothing.
use mathlib.Core.Bool.{true}
use mathlib.Core.Path.{◌≡◌, sym, ap, ◌∙◌}
use Prim.Native.Nat.{ℕ, ◌≤◌, min}
use native.Mathlib.Omega.{arith}
use borrow.Author.Tests.{leb-true}
use lib.Dec.{leb}
use lib.ListN.{length}
use Rattle.form.specs.declared.limits.Limits.{Limits}
use Rattle.form.specs.Forms.{limits_of}
use Rattle.form.specs.Numbers.{no_table_number}
use Rattle.form.proofs.TwoForms.{form_lawful}
use Rattle.order.specs.Owners.{level}
use Rattle.table.specs.Lent.{Lent, lent}
use Rattle.table.proofs.Width.{form_fits}
use Rattle.write.specs.inner.ReadsBack.{is_table}
use Rattle.look.specs.Looking.{order_at}
use Rattle.value.specs.Refusals.{not_an_order}
use Rattle.value.specs.Numerals.{most_digits}
use Rattle.value.specs.Results.{numeric_rows, answers_room}
use Rattle.value.specs.inner.Seeking.{OrderRows}
use Rattle.value.proofs.TestedTables.{order-rows}
use Rattle.value.proofs.ResultsRead.{no_table, no_order, values-refused, values-few, values-put}
use Rattle.value.proofs.results.order_values.Goals as goal
use Rattle.value.proofs.results.order_values.Goals.{After-has_room, After-min-room, Else-not-has_room, Else-not-is_order, Else-not-is_table, Start}

-- the limits of its form, the table that is lent, how many results its order has, and how many answers have room
abbrev limits_here : Start → Limits
limits_here c = limits_of c.args.form

abbrev lent_here : Start → Lent
lent_here c = lent c.args.card c.args.segments.now c.args.leaves.now c.args.text.now

abbrev many_here : Start → ℕ
many_here c = length (numeric_rows (lent_here c) c.args.order)

abbrev room-held : Start → ℕ
room-held c = answers_room (length c.args.numbers.now) (length c.args.wholes.now) (length c.args.decimals.now)

-- past the first two tests: some message reads to the table, and the row is an order
table_here : (c : Else-not-is_table) → is_table (limits_here (goal.at.Else-not-is_table c).Start) level (lent_here (goal.at.Else-not-is_table c).Start) ≡ true
table_here c = sym c.is_table.ensures ∙ c.if-not-is_table.false

order_here : (c : Else-not-is_order) → order_at (lent_here (goal.at.Else-not-is_order c).Start) c.args.order ≡ true
order_here c = sym c.is_order.ensures ∙ c.if-not-is_order.false

rows_here : (c : Else-not-is_order) → OrderRows (lent_here (goal.at.Else-not-is_order c).Start) c.args.order
rows_here c =
    let f = c.args.form in
    order-rows (limits_of f) (form_lawful f) level (lent_here (goal.at.Else-not-is_order c).Start) (table_here (goal.at.Else-not-is_order c).Else-not-is_table) (omega (arith, (form_fits f).segments))
    c.args.order (order_here c)

-- the room is that of the shortest buffer; whether it does for all results; and past the third test, it does
room_here : (c : After-min-room) → c.min-room.result ≡ room-held (goal.at.After-min-room c).Start
room_here c = c.min-room.ensures ∙ ap (λ (n : ℕ). min n (length c.args.decimals.now)) c.min.ensures

room-tested : (c : After-has_room) → c.has_room.result ≡ leb (many_here (goal.at.After-has_room c).Start) (room-held (goal.at.After-has_room c).Start)
room-tested c = c.has_room.ensures ∙ ap (leb (many_here (goal.at.After-has_room c).Start)) (room_here (goal.at.After-has_room c).After-min-room)

all_fit : (c : Else-not-has_room) → leb (many_here (goal.at.Else-not-has_room c).Start) (room-held (goal.at.Else-not-has_room c).Start) ≡ true
all_fit c = sym (room-tested (goal.at.Else-not-has_room c).After-has_room) ∙ c.if-not-has_room.false

fits_here : (c : Else-not-has_room) → many_here (goal.at.Else-not-has_room c).Start ≤ room-held (goal.at.Else-not-has_room c).Start
fits_here c = leb-true (many_here (goal.at.Else-not-has_room c).Start) (room-held (goal.at.Else-not-has_room c).Start) (all_fit c)

pub returns-then-not-is_table : goal.returns-then-not-is_table
returns-then-not-is_table c =
    values-refused (limits_here (goal.at.returns-then-not-is_table c).Start) level most_digits (lent_here (goal.at.returns-then-not-is_table c).Start) c.args.order c.args.numbers.now c.args.wholes.now c.args.decimals.now no_table_number
    (no_table (limits_here (goal.at.returns-then-not-is_table c).Start) level most_digits (lent_here (goal.at.returns-then-not-is_table c).Start) c.args.order (length c.args.numbers.now) (length c.args.wholes.now) (length c.args.decimals.now)
    (sym c.is_table.ensures ∙ c.if-not-is_table.true))
    c.refusal.ensures

pub returns-then-not-is_order : goal.returns-then-not-is_order
returns-then-not-is_order c =
    values-refused (limits_here (goal.at.returns-then-not-is_order c).Start) level most_digits (lent_here (goal.at.returns-then-not-is_order c).Start) c.args.order c.args.numbers.now c.args.wholes.now c.args.decimals.now not_an_order
    (no_order (limits_here (goal.at.returns-then-not-is_order c).Start) level most_digits (lent_here (goal.at.returns-then-not-is_order c).Start) c.args.order (length c.args.numbers.now) (length c.args.wholes.now) (length c.args.decimals.now)
    (table_here (goal.at.returns-then-not-is_order c).Else-not-is_table) (sym c.is_order.ensures ∙ c.if-not-is_order.true))
    c.refusal-then-not-is_order.ensures

pub has_room-requires : goal.has_room-requires
has_room-requires c = rows_here (goal.at.has_room-requires c).Else-not-is_order

pub returns-then-not-has_room : goal.returns-then-not-has_room
returns-then-not-has_room c =
    values-few (limits_here (goal.at.returns-then-not-has_room c).Start) level most_digits (lent_here (goal.at.returns-then-not-has_room c).Start) c.args.order c.args.numbers.now c.args.wholes.now c.args.decimals.now (table_here (goal.at.returns-then-not-has_room c).Else-not-is_table) (order_here (goal.at.returns-then-not-has_room c).Else-not-is_order)
    (sym (room-tested (goal.at.returns-then-not-has_room c).After-has_room) ∙ c.if-not-has_room.true)
    c.refusal-then-not-has_room.ensures

pub put_values-count-requires : goal.put_values-count-requires
put_values-count-requires c =
    let fits = fits_here (goal.at.put_values-count-requires c).Else-not-has_room in
    record {
      rows = rows_here (goal.at.put_values-count-requires c).Else-not-is_order;
      numbers_hold = omega (arith, fits);
      wholes_hold = omega (arith, fits);
      decimals_hold = omega (arith, fits);
    }

pub returns : goal.returns
returns c =
    values-put (limits_here (goal.at.returns c).Start) level most_digits (lent_here (goal.at.returns c).Start) c.args.order c.args.numbers.now c.args.wholes.now c.args.decimals.now (table_here (goal.at.returns c).Else-not-is_table) (order_here (goal.at.returns c).Else-not-is_order)
    (all_fit (goal.at.returns c).Else-not-has_room) c.put_values-count.ensures
