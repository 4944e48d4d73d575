-- `archive::put_table` meets its contract: each of the three parts is put at the front of its buffer.
-- Assumes nothing.
use native.Mathlib.Omega.{arith}
use mathlib.Core.Path.{sym, ap, ◌∙◌}
use Prim.Native.Nat.{ℕ, ◌*◌}
use lib.Seq.{sets, length-take-le}
use Rattle.form.specs.declared.forms.Form.TheVariants.{Small}
use Rattle.form.specs.Forms.{small_form, limits_of}
use Rattle.form.specs.Limits.{Lawful}
use Rattle.form.proofs.TwoForms.{form_lawful}
use Rattle.order.specs.Owners.{owners}
use Rattle.order.proofs.LevelTable.{levels_are, levels-below}
use Rattle.table.specs.Rows.{segment_row_size, leaf_row_size}
use Rattle.table.specs.Lent.{Lent, lent, counted}
use Rattle.write.specs.inner.Tests.{kind_column}
use Rattle.write.proofs.LentTables.{Within, within_buffers_lem}
use Rattle.archive.specs.inner.OwnedRows.{rows_owned}
use Rattle.archive.proofs.WidenedTables.{given-within, given-room, given-kinds}
use Rattle.archive.proofs.put_table.Goals as goal
use Rattle.archive.proofs.put_table.Goals.{Start}

small_lawful : Lawful small_form
unfolding limits_of
small_lawful = form_lawful Small

-- the lent table, its counts within its buffers, and within the new ones
abbrev table : Start → Lent
table s = lent s.args.card s.args.segments.now s.args.leaves.now s.args.text.now

within : (s : Start) → Within (table s)
within s = (within_buffers_lem (table s)).0 (given-within small_form small_lawful (table s) s.requires.given)

room : (s : Start) → Within (lent s.args.card s.args.new_segments.now s.args.new_leaves.now s.args.new_text.now)
room s =
    given-room small_form small_lawful (table s) s.requires.given s.args.new_text.now s.args.new_segments.now s.args.new_leaves.now s.requires.roomy

pub overflow_mul-size : goal.overflow_mul-size
overflow_mul-size c = omega (arith, (within (goal.at.overflow_mul-size c).Start).segment_rows)

pub overflow_mul-many : goal.overflow_mul-many
overflow_mul-many c = omega (arith, (within (goal.at.overflow_mul-many c).Start).leaf_rows)

pub slice_bounds-put_bytes-end : goal.slice_bounds-put_bytes-end
slice_bounds-put_bytes-end c = sym (length-take-le c.args.card.text c.args.text.now (within (goal.at.slice_bounds-put_bytes-end c).Start).text)

pub put_bytes-requires : goal.put_bytes-requires
put_bytes-requires c = omega (arith, length-take-le c.args.card.text c.args.text.now (within (goal.at.put_bytes-requires c).Start).text, (room (goal.at.put_bytes-requires c).Start).text)

pub slice_bounds-put_rows-end : goal.slice_bounds-put_rows-end
slice_bounds-put_rows-end c = sym (length-take-le (c.args.card.segments * segment_row_size) c.args.segments.now (within (goal.at.slice_bounds-put_rows-end c).Start).segment_rows)

pub put_rows-requires : goal.put_rows-requires
unfolding counted
put_rows-requires c =
    record {
      kinds = given-kinds small_form small_lawful (table (goal.at.put_rows-requires c).Start) c.requires.given (omega arith);
      low = levels-below c.table-levels.ensures;
      room = (room (goal.at.put_rows-requires c).Start).segment_rows;
    }

pub slice_bounds-put_numbers-end : goal.slice_bounds-put_numbers-end
slice_bounds-put_numbers-end c = sym (length-take-le (c.args.card.leaves * leaf_row_size) c.args.leaves.now (within (goal.at.slice_bounds-put_numbers-end c).Start).leaf_rows)

pub put_numbers-requires : goal.put_numbers-requires
put_numbers-requires c = omega (arith, length-take-le (c.args.card.leaves * leaf_row_size) c.args.leaves.now (within (goal.at.put_numbers-requires c).Start).leaf_rows, (room (goal.at.put_numbers-requires c).Start).leaf_rows)

pub returns : goal.returns
unfolding counted
returns c =
    let rows = (counted (table (goal.at.returns c).Start)).segment_rows in
    record {
      text_area = c.put_bytes.ensures;
      segment_rows =
          c.put_rows.ensures
          ∙ ap (λ (lv : ℕ → ℕ → ℕ). sets c.args.new_segments.now 0 (rows_owned (owners (lv c.args.card.context) (kind_column rows c.args.card.segments)) rows))
          (levels_are c.table-levels.ensures);
      leaf_rows = c.put_numbers.ensures;
    }
