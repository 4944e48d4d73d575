-- `archive::widen` meets its contract: each return is one outcome.
-- Assumes nothing.
use mathlib.Core.Bool.{true, false}
use mathlib.Core.Path.{◌≡◌}
use Rattle.form.specs.declared.forms.Form.TheVariants.{Small}
use Rattle.form.specs.Forms.{small_form, limits_of}
use Rattle.form.specs.Limits.{Lawful}
use Rattle.form.proofs.TwoForms.{form_lawful}
use Rattle.table.specs.Lent.{Lent, lent}
use Rattle.table.specs.Reading.{Room, room_of, short}
use Rattle.write.proofs.Said.{answered_no, answered_yes}
use Rattle.archive.specs.Widening.{ever_read}
use Rattle.archive.proofs.Outcomes.{short-text, short-segments, short-leaves, none-short, widening-short, widening-never, refusal_gives}
use Rattle.archive.proofs.WidenedTables.{given-put}
use Rattle.archive.proofs.widen.Goals as goal
use Rattle.archive.proofs.widen.Goals.{
  Else-new_leaves,
  Else-not-ever_read,
  Start,
  then-new_text-lt-BYTES-via-then-new_text-lt-BYTES,
  then-new_text-lt-BYTES-via-else-new_text-lt-BYTES+then-new_segments,
  then-new_text-lt-BYTES-via-else-new_text-lt-BYTES+else-new_segments+then-new_leaves,
}

small_lawful : Lawful small_form
unfolding limits_of
small_lawful = form_lawful Small

-- the lent table, and the lengths of the new buffers
abbrev table : Start → Lent
table s = lent s.args.card s.args.segments.now s.args.leaves.now s.args.text.now

abbrev room : Start → Room
room s = room_of s.args.new_text.now s.args.new_segments.now s.args.new_leaves.now

-- where no new buffer is short
roomy : (c : Else-new_leaves) → short small_form (room (goal.at.Else-new_leaves c).Start) ≡ false
roomy c = none-short small_form (room (goal.at.Else-new_leaves c).Start) c.if-new_text-lt-BYTES.false c.if-new_segments.false c.if-new_leaves.false

-- and where a reader gave the table
given : (c : Else-not-ever_read) → ever_read small_form (table (goal.at.Else-not-ever_read c).Start) ≡ true
given c = answered_yes c.ever_read.ensures c.if-not-ever_read.false

pub returns-then-new_text-lt-BYTES : goal.returns-then-new_text-lt-BYTES
returns-then-new_text-lt-BYTES c =
    let lent_room = room (goal.at.returns-then-new_text-lt-BYTES c).Start in
    refusal_gives
    (widening-short small_form lent_room (table (goal.at.returns-then-new_text-lt-BYTES c).Start)
    (elim c.then-new_text-lt-BYTES.branch [
      | then-new_text-lt-BYTES-via-then-new_text-lt-BYTES w ↦ short-text small_form lent_room w.if-new_text-lt-BYTES.true
      | then-new_text-lt-BYTES-via-else-new_text-lt-BYTES+then-new_segments w ↦
          short-segments small_form lent_room w.if-new_text-lt-BYTES.false w.if-new_segments.true
      | then-new_text-lt-BYTES-via-else-new_text-lt-BYTES+else-new_segments+then-new_leaves w ↦
          short-leaves small_form lent_room w.if-new_text-lt-BYTES.false w.if-new_segments.false w.if-new_leaves.true
    ]))
    c.refuse.ensures

pub returns-then-not-ever_read : goal.returns-then-not-ever_read
returns-then-not-ever_read c =
    refusal_gives
    (widening-never small_form (room (goal.at.returns-then-not-ever_read c).Start) (table (goal.at.returns-then-not-ever_read c).Start) (roomy (goal.at.returns-then-not-ever_read c).Else-new_leaves) (answered_no c.ever_read.ensures c.if-not-ever_read.true))
    c.refuse-then-not-ever_read.ensures

pub put_table-requires : goal.put_table-requires
put_table-requires c = record { given = given (goal.at.put_table-requires c).Else-not-ever_read; roomy = roomy (goal.at.put_table-requires c).Else-new_leaves }

pub returns : goal.returns
returns c = given-put small_form small_lawful (table (goal.at.returns c).Start) (given (goal.at.returns c).Else-not-ever_read) (roomy (goal.at.returns c).Else-new_leaves) c.put_table.ensures
