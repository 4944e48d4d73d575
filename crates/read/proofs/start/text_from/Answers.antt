-- `read::start::text_from` meets its contract: each answer is one law of the first two bytes.
-- Assumes nothing.
use mathlib.Core.Path.{sym}
use Rattle.read.proofs.Starting.{from_past, from-other, from_single, from_unseparated, from-addendum}
use Rattle.read.proofs.start.text_from.Goals as goal
use Rattle.read.proofs.start.text_from.Goals.{
  else-at-message-via-then-at-message+then-message-at-eq65+then-at-message-2+else-message-at,
  else-at-message-via-then-at-message+then-message-at-eq65+else-at-message-2,
  else-at-message-via-then-at-message+else-message-at-eq65,
  else-at-message-via-else-at-message,
}

pub returns-then-message-at : goal.returns-then-message-at
returns-then-message-at c = sym (from-addendum _ _ _ c.if-at-message.true c.if-at-message-2.true c.if-message-at-eq65.true c.if-message-at.true)

pub returns-else-at-message : goal.returns-else-at-message
returns-else-at-message c =
    elim c.else-at-message.branch [
      | else-at-message-via-then-at-message+then-message-at-eq65+then-at-message-2+else-message-at w ↦
          sym (from_unseparated _ _ _ w.if-at-message.true w.if-at-message-2.true w.if-message-at.false)
      | else-at-message-via-then-at-message+then-message-at-eq65+else-at-message-2 w ↦ sym (from_single _ _ _ w.if-at-message.true w.if-at-message-2.false)
      | else-at-message-via-then-at-message+else-message-at-eq65 w ↦ sym (from-other _ _ _ w.if-at-message.true w.if-message-at-eq65.false)
      | else-at-message-via-else-at-message w ↦ sym (from_past _ _ _ w.if-at-message.false)
    ]
