-- What the reader leaves in the buffers of an accepted message is its table, to which that message reads.
-- Assumes nothing.
use mathlib.Core.List.{List}
use mathlib.Core.Path.{◌≡◌, sym, ap, ◌∙◌}
use Prim.Native.Nat.{ℕ}
use Rattle.form.specs.declared.limits.Limits.{Limits}
use Rattle.form.specs.Limits.{Lawful}
use Rattle.table.specs.Lent.{lent, counted}
use Rattle.table.specs.Rows.{Table}
use Rattle.table.specs.Reading.{room_of, accepted, reading, stated}
use Rattle.table.proofs.Accepting.{accepting, any-room}
use Rattle.read.specs.declared.Answer.{Answer}
use Rattle.read.specs.Answering.{answer_of, text_put, segments_put, leaves_put, ReadAs}
use Rattle.read.proofs.Acceptance.{number-accepted}
use Rattle.read.proofs.OnlyOne.{reading-numbered}
use Rattle.write.specs.Writing.{ReadTo}
use Rattle.write.proofs.ReadTables.{table_left, filed-counted}

module _ (L : Limits) (lawful : Lawful L) (levels : ℕ → ℕ → ℕ) (message : List ℕ) {text segments leaves text' segments' leaves' : List ℕ} {r : Answer}
    (read : ReadAs L levels message text segments leaves r text' segments' leaves') where
  -- the card and the buffers are those of the table
  left_as : (t : Table) (e : reading L levels (room_of text segments leaves) message ≡ accepted t)
      → lent r.card segments' leaves' text' ≡ table_left L lawful levels message text segments leaves t e
  unfolding answer_of text_put segments_put leaves_put
  left_as t e =
      rw (read.answer, read.text_area, read.segment_rows, read.leaf_rows, e)

  pub left-counted : (t : Table) → reading L levels (room_of text segments leaves) message ≡ accepted t → counted (lent r.card segments' leaves' text') ≡ t
  left-counted t e = ap counted (left_as t e) ∙ filed-counted L lawful levels message text segments leaves t e

  -- the message itself reads to it, into buffers of the stated sizes
  pub message-left : r.number ≡ 0 → reading L levels (stated L) message ≡ accepted (counted (lent r.card segments' leaves' text'))
  message-left zero =
      let room = room_of text segments leaves in
      let t = (number-accepted (reading L levels room message) read (reading-numbered L levels room message)).0 zero in
      let roomy = ((accepting L levels room message t.0).0 t.1).roomy in
      sym (any-room L levels room message roomy) ∙ t.1 ∙ ap accepted (sym (left-counted t.0 t.1))

  pub table-left : r.number ≡ 0 → ReadTo L levels (counted (lent r.card segments' leaves' text'))
  table-left zero = (message, message-left zero)
