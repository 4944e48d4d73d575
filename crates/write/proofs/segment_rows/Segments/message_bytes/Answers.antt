-- `write::segment_rows::Segments::message_bytes` meets its contract. The loop's invariant: the rows so far state the segments of the leaves so far, and
-- the bytes counted and those of the segments left are all.
-- Assumes nothing.
use native.Mathlib.Omega.{arith}
use Prim.Native.Nat.{◌+◌}
use Rattle.write.proofs.Groups.{StatedEnd, grouping_begins, grouping_ends, grouping_all}
use Rattle.write.proofs.WrittenCount.{counting-begins, counting_on, counting-done, all-written}
use Rattle.write.proofs.segment_rows.Segments.message_bytes.Goals as goal
use Rattle.write.proofs.segment_rows.Segments.message_bytes.Goals.{After-wide-size}

ended : (c : After-wide-size) → StatedEnd c.args.self.rows.now c.args.self.count c.args.leaves.rows.now c.args.leaves.text.now c.args.leaves.count c.loop-i.i c.loop-i.first (c.loop-i.first + c.wide-size.result)
ended c =
    grouping_ends c.loop-i.invariant.0 (omega arith) c.requires.grouped c.wide-size.ensures.0

pub loop-i-init : goal.loop-i-init
loop-i-init c = (grouping_begins, counting-begins)

pub segment_bytes-total-requires : goal.segment_bytes-total-requires
segment_bytes-total-requires c =
    let pre = c.requires in
    let v = (ended c).ends in
    record { lawful = pre.lawful; leaves = record { in_text = pre.in_text; from = v.from; to = v.to } }

pub overflow_add-total : goal.overflow_add-total
overflow_add-total c =
    let in_text = c.requires.in_text in
    let on = counting_on c.loop-i.invariant.1 (ended (goal.at.overflow_add-total c).After-wide-size).ends c.segment_bytes-total.ensures in
    omega (arith, on.so, all-written c.args.limits c.requires.lawful in_text, in_text.few, in_text.short)

pub loop-i-preserved : goal.loop-i-preserved
loop-i-preserved c = ((ended (goal.at.loop-i-preserved c).After-wide-size).on, counting_on c.loop-i.invariant.1 (ended (goal.at.loop-i-preserved c).After-wide-size).ends c.segment_bytes-total.ensures)

pub returns : goal.returns
returns c = counting-done c.loop-i.invariant.1 (omega (arith, grouping_all c.loop-i.invariant.0 (omega arith) c.requires.grouped))
