-- `write::segment_rows::Segments::grouped` meets its contract. The loop's invariant: the rows that are left give the whole, and the next segment begins in
-- field 1.
-- Assumes nothing.
use native.Mathlib.Omega.{arith}
use Prim.Native.Nat.{◌+◌}
use mathlib.Core.Path.{◌≡◌, refl, sym, ◌∙◌}
use Rattle.write.proofs.SegmentTests.{states_unknown}
use Rattle.table.specs.inner.BySegment.{kind_among}
use Rattle.write.specs.inner.Tests.{leaves_between, SegmentEnd}
use Rattle.write.proofs.Known.{IsKnown, is_known, unknown}
use Rattle.write.proofs.Rising.{segment-head}
use Rattle.write.proofs.Groups.{grouping_begins, grouping_otherwise, stated_wrong, stated_right, grouping_done}
use Rattle.write.proofs.segment_rows.Segments.grouped.Goals as goal
use Rattle.write.proofs.segment_rows.Segments.grouped.Goals.{Else-not-has_leaves, In-Some}

-- the segment that begins here has as many leaves as its row says
ended : (c : Else-not-has_leaves) → SegmentEnd c.args.leaves.rows.now c.args.leaves.count c.loop-i.first (c.loop-i.first + c.wide-size.result)
ended c = c.has_leaves.ensures.0 (c.if-not-has_leaves.false)

-- and a kind
named : (c : In-Some) → IsKnown c.in-Some.kind (kind_among (leaves_between c.args.leaves.rows.now c.args.leaves.text.now c.loop-i.first (c.loop-i.first + c.wide-size.result)))
named c = is_known (sym c.in-Some.is ∙ c.kind_of.ensures)

pub loop-i-init : goal.loop-i-init
loop-i-init c = (grouping_begins, record { head = λ l. c.requires.head })

pub returns-then-not-has_leaves : goal.returns-then-not-has_leaves
returns-then-not-has_leaves c =
    grouping_otherwise c.loop-i.invariant.0 (omega arith) c.wide-size.ensures.0
    (c.has_leaves.ensures.1 (c.if-not-has_leaves.true))

pub returns-in_default : goal.returns-in_default
returns-in_default c =
    let none : kind_among (leaves_between c.args.leaves.rows.now c.args.leaves.text.now c.loop-i.first (c.loop-i.first + c.wide-size.result)) ≡ 0 =
    unknown (sym c.in_default.is ∙ c.kind_of.ensures) in
    stated_wrong c.loop-i.invariant.0 (omega arith) c.wide-size.result (ended (goal.at.returns-in_default c).Else-not-has_leaves) refl refl
    (sym (states_unknown c.args.self.rows.now c.loop-i.i _ (c.loop-i.first + 1) c.wide-size.result none))

pub returns-then-not-row_states : goal.returns-then-not-row_states
returns-then-not-row_states c =
    stated_wrong c.loop-i.invariant.0 (omega arith) c.wide-size.result (ended (goal.at.returns-then-not-row_states c).Else-not-has_leaves) (named (goal.at.returns-then-not-row_states c).In-Some).is
    c.row_states.ensures c.if-not-row_states.true

pub loop-i-preserved : goal.loop-i-preserved
loop-i-preserved c = (
  stated_right c.loop-i.invariant.0 (omega arith) c.wide-size.result (ended (goal.at.loop-i-preserved c).Else-not-has_leaves) (named (goal.at.loop-i-preserved c).In-Some).is c.row_states.ensures c.if-not-row_states.false,
  record { head = segment-head c.args.leaves.rows.now c.args.leaves.count c.requires.in_text.sized c.requires.next (ended (goal.at.loop-i-preserved c).Else-not-has_leaves) },
)

pub returns : goal.returns
returns c = grouping_done c.loop-i.invariant.0 (omega arith)
