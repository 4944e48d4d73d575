-- `abi::widening::sargaceu_widen` meets its contract: what widening gives, put into the answer where that has room.
-- Assumes nothing.
use mathlib.Core.Path.{subst}
use Rattle.form.specs.Forms.{small_form}
use Rattle.table.specs.declared.Card.{Card}
use Rattle.table.specs.Lent.{Lent, lent}
use Rattle.table.specs.Reading.{Outcome, room_of}
use Rattle.archive.specs.Widening.{widening, WidenedAs}
use Rattle.abi.specs.Cards.{card_of}
use Rattle.abi.proofs.ReadAnswers.{tells_short, tells_whole}
use Rattle.abi.proofs.widening.sargaceu_widen.Goals as goal
use Rattle.abi.proofs.widening.sargaceu_widen.Goals.{Start}

-- the table that came in, and the outcome of widening it
abbrev table : Start → Lent
table s = lent (card_of s.args.card.now) s.args.segments.now s.args.leaves.now s.args.text.now

abbrev outcome : Start → Outcome
outcome s = widening small_form (room_of s.args.new_text.now s.args.new_segments.now s.args.new_leaves.now) (table s)

pub returns-then-answer-lt-ANSWER : goal.returns-then-answer-lt-ANSWER
returns-then-answer-lt-ANSWER c = tells_short c.args.answer.now (outcome (goal.at.returns-then-answer-lt-ANSWER c).Start) c.if-answer-lt-ANSWER.true c.args.new_text.now c.args.new_segments.now c.args.new_leaves.now

pub shape_of-new_text : goal.shape_of-new_text
shape_of-new_text c = c.widen-widened.auto.new_text

pub shape_of-new_segments : goal.shape_of-new_segments
shape_of-new_segments c = c.widen-widened.auto.new_segments

pub shape_of-new_leaves : goal.shape_of-new_leaves
shape_of-new_leaves c = c.widen-widened.auto.new_leaves

pub returns : goal.returns
returns c =
    tells_whole c.args.answer.now (outcome (goal.at.returns c).Start) c.if-answer-lt-ANSWER.false
    (subst
    (λ (k : Card).
    WidenedAs small_form (lent k c.args.segments.now c.args.leaves.now c.args.text.now) c.args.new_text.now c.args.new_segments.now c.args.new_leaves.now
    c.widen-widened.result c.widen-widened.new.new_text c.widen-widened.new.new_segments c.widen-widened.new.new_leaves)
    c.card_of.ensures c.widen-widened.ensures)
    c.put_filed.ensures
