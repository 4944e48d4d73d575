-- Widening an archived table (rules B1 to B3): what comes out is what reading its message gives now.
-- Assumes nothing.
use Rattle.std.specs.Prelude.{Bool, true, false, ◌||◌, List, ℕ}
use Rattle.form.specs.declared.limits.Limits.{Limits}
use Rattle.form.specs.Numbers.{short_buffer}
use Rattle.order.specs.Owners.{level, former_level}
use Rattle.table.specs.Lent.{Lent, counted}
use Rattle.table.specs.Reading.{Room, room_of, Outcome, refused, refuse_if, short, reading}
use Rattle.table.specs.inner.Back.{written}
use Rattle.read.specs.declared.Answer.{Answer}
use Rattle.read.specs.Answering.{Gives}
use Rattle.write.specs.inner.ReadsBack.{is_table}
use Rattle.archive.specs.Refusals.{never_read}

-- whether a reader gave the table (B2): some message reads to it by the owners in force, or some message does by the former ones (O1, O4)
unfoldable pub ever_read : Limits → Lent → Bool
ever_read L l = is_table L level l || is_table L former_level l

-- the outcome for new buffers of these lengths: they are tested as the reader tests its own, then the table; then its message is read (B1)
unfoldable pub widening : Limits → Room → Lent → Outcome
widening L room l =
    refuse_if (short L room) short_buffer
    (elim (ever_read L l) [ true ↦ reading L level room (written L (counted l)) | false ↦ refused never_read 0 ])

-- the contract of widening: the answer and the new buffers are those of the outcome (B3)
abbrev pub WidenedAs : Limits → Lent → (text segments leaves : List ℕ) → Answer → (text' segments' leaves' : List ℕ) → Type 0
WidenedAs L l text segments leaves r text' segments' leaves' =
    Gives (widening L (room_of text segments leaves) l) text segments leaves r text' segments' leaves'
