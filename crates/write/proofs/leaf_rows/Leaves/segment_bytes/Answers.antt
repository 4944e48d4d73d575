-- `write::leaf_rows::Leaves::segment_bytes` meets its contract. The lines of lawful limits are no more than the bytes and one.
-- Assumes nothing.
use native.Mathlib.Omega.{arith}
use mathlib.Core.Path.{◌≡◌, ◌∙◌}
use Prim.Native.Nat.{◌+◌, ◌-◌, ◌≤◌}
use Rattle.form.specs.Limits.{line_count}
use Rattle.form.proofs.LineCount.{lines-lawful}
use Rattle.write.proofs.WrittenCount.{few-lines, some-lines, segment-written}
use lib.ListN.{length}
use Rattle.write.proofs.leaf_rows.Leaves.segment_bytes.Goals as goal
use Rattle.write.proofs.leaf_rows.Leaves.segment_bytes.Goals.{After-lines, After-text_bytes}

-- text and separators are few
few_bytes : (c : After-text_bytes) → c.text_bytes.result + (c.args.end - c.args.first - 1) ≤ length c.args.self.text.now + c.args.self.count
few_bytes c = let leaves = c.requires.leaves in omega (arith, c.text_bytes.ensures.1, leaves.from, leaves.to)

-- their lines
lines_are : (c : After-lines) → c.lines.result ≡ line_count c.args.limits (c.text_bytes.result + (c.args.end - c.args.first - 1))
lines_are c =
    let lawful = c.requires.lawful in
    c.lines.ensures
    ∙ lines-lawful c.args.limits (c.text_bytes.result + (c.args.end - c.args.first - 1)) lawful.addendum lawful.header

few_here : (c : After-lines) → c.lines.result ≤ c.text_bytes.result + (c.args.end - c.args.first - 1) + 1
few_here c =
    omega (arith, lines_are c, few-lines c.args.limits c.requires.lawful (c.text_bytes.result + (c.args.end - c.args.first - 1)))

pub overflow_mul-result : goal.overflow_mul-result
overflow_mul-result c =
    let in_text = c.requires.leaves.in_text in
    omega (arith, few_here c, few_bytes (goal.at.overflow_mul-result c).After-text_bytes, in_text.few, in_text.short)

pub overflow_add-result : goal.overflow_add-result
overflow_add-result c =
    let in_text = c.requires.leaves.in_text in
    omega (arith, few_here c, few_bytes (goal.at.overflow_add-result c).After-text_bytes, in_text.few, in_text.short)

pub overflow_sub-result : goal.overflow_sub-result
overflow_sub-result c = omega (arith, lines_are c, some-lines c.args.limits (c.text_bytes.result + (c.args.end - c.args.first - 1)))

pub returns : goal.returns
returns c =
    segment-written c.args.limits c.requires.lawful c.args.self.rows.now c.args.self.text.now c.args.first c.args.end c.requires.leaves.from c.text_bytes.ensures.0
    c.lines.ensures
