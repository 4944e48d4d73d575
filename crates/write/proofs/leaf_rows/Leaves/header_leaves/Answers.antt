-- `write::leaf_rows::Leaves::header_leaves` meets its contract: one law a return.
-- Assumes nothing.
use native.Mathlib.Omega.{arith}
use mathlib.Core.Path.{sym, ◌∙◌}
use Prim.Native.Nat.{◌≤◌, ◌*◌}
use lib.ListN.{length}
use Rattle.write.proofs.LaidRows.{in_text_fits}
use Rattle.write.proofs.HeaderTest.{not_segment_one, not_first, not_one_byte, not_letter, not_field_two, four_decides}
use Rattle.table.specs.Rows.{leaf_row_size}
use Rattle.write.proofs.leaf_rows.Leaves.header_leaves.Goals as goal
use Rattle.write.proofs.leaf_rows.Leaves.header_leaves.Goals.{Start}

-- three rows at least
rows-there : (s : Start) → 3 * leaf_row_size ≤ length s.args.self.rows.now
rows-there s = omega (arith, s.requires.in_text.sized, s.requires.three)

pub returns-then-self-ne1 : goal.returns-then-self-ne1
returns-then-self-ne1 c = not_segment_one c.args.self.rows.now c.args.self.text.now c.requires c.if-self-ne1.true

pub returns-then-not-first_in_segment : goal.returns-then-not-first_in_segment
returns-then-not-first_in_segment c =
    not_first c.args.self.rows.now c.args.self.text.now c.requires (sym c.first_in_segment.ensures ∙ c.if-not-first_in_segment.true)

pub returns-then-self-ne1-2 : goal.returns-then-self-ne1-2
returns-then-self-ne1-2 c = not_one_byte c.args.self.rows.now c.args.self.text.now c.requires c.if-self-ne1-2.true

pub bounds-self-wide : goal.bounds-self-wide
bounds-self-wide c =
    let pre = c.requires in
    omega (arith, in_text_fits pre.in_text 0 (omega (arith, pre.three)), c.wide.ensures.0, c.if-self-ne1-2.false)

pub returns-then-self-wide-ne72 : goal.returns-then-self-wide-ne72
returns-then-self-wide-ne72 c = not_letter c.args.self.rows.now c.args.self.text.now c.requires c.if-self-ne1-2.false c.wide.ensures.0 c.if-self-wide-ne72.true

pub returns-then-self-ne2 : goal.returns-then-self-ne2
returns-then-self-ne2 c = not_field_two c.args.self.rows.now c.args.self.text.now c.requires c.if-self-ne1-2.false c.wide.ensures.0 c.if-self-ne2.true

pub returns : goal.returns
returns c =
    four_decides c.args.self.rows.now c.args.self.text.now c.requires c.if-self-ne1-2.false c.wide.ensures.0
    c.if-self-ne1.false (sym c.first_in_segment.ensures ∙ c.if-not-first_in_segment.false)
    c.if-self-wide-ne72.false c.if-self-ne2.false
