-- `value::result::is_numeric` meets its contract: the kind, the owner and then the type.
-- Assumes nothing.
use Prim.Native.Nat.{◌+◌, ◌*◌, ◌≤◌}
use native.Mathlib.Omega.{arith}
use mathlib.Core.Path.{sym, ◌∙◌}
use borrow.Author.Tests.{ne_eqb}
use Rattle.laws.proofs.Tests.{never_both}
use lib.ListN.{length}
use Rattle.table.specs.Lent.{Lent, lent}
use Rattle.table.specs.Rows.{segment_row_size, kind_in}
use Rattle.tested.proofs.NamedLeaves.{row_inside}
use Rattle.value.proofs.NumericRows.{other_kind, other_owner, by_type}
use Rattle.value.proofs.result.is_numeric.Goals as goal
use Rattle.value.proofs.result.is_numeric.Goals.{Start, then-segments-at, else-segments-at}

-- the table that is lent, and its row within the buffer
abbrev lent_here : Start → Lent
lent_here c = lent c.args.card c.args.segments.now c.args.leaves.now c.args.text.now

inside : (c : Start) → c.args.row * segment_row_size + segment_row_size ≤ length c.args.segments.now
inside c = row_inside (lent_here c) c.requires.table c.args.row c.requires.counts

pub bounds-segments-at : goal.bounds-segments-at
bounds-segments-at c = omega (arith, inside (goal.at.bounds-segments-at c).Start)

pub bounds-segments-at-then-segments-at : goal.bounds-segments-at-then-segments-at
bounds-segments-at-then-segments-at c = omega (arith, inside (goal.at.bounds-segments-at-then-segments-at c).Start)

pub returns-then-segments-at-2 : goal.returns-then-segments-at-2
returns-then-segments-at-2 c =
    let t = lent_here (goal.at.returns-then-segments-at-2 c).Start in
    elim c.if-segments-at.branch [
      | then-segments-at w ↦
          c.has_numeric_type.ensures ∙ by_type t c.args.order c.args.row w.if-segments-at.true (sym w.value-is ∙ c.if-segments-at-2.true)
      | else-segments-at w ↦
          absurd (never_both c.if-segments-at-2.true (w.value-is ∙ ne_eqb (kind_in t.segment_rows c.args.row) 6 w.if-segments-at.false))
    ]

pub returns-else-segments-at-2 : goal.returns-else-segments-at-2
returns-else-segments-at-2 c =
    let t = lent_here (goal.at.returns-else-segments-at-2 c).Start in
    c.if-segments-at-2.false
    ∙ elim c.if-segments-at.branch [
      | then-segments-at w ↦ other_owner t c.args.order c.args.row (sym w.value-is ∙ c.if-segments-at-2.false)
      | else-segments-at w ↦ other_kind t c.args.order c.args.row w.if-segments-at.false
    ]
