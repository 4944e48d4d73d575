-- `abi::reading::sargaceu_read` meets its contract: what the reader gives, put into the answer where that has room.
-- Assumes nothing.
use mathlib.Core.Path.{refl, ap}
use Rattle.form.specs.Forms.{limits_of}
use Rattle.order.specs.Owners.{level}
use Rattle.table.specs.Reading.{Outcome, room_of, reading}
use Rattle.read.proofs.Answering.{read_same}
use Rattle.abi.specs.FormNumbers.{limits_numbered}
use Rattle.abi.proofs.ReadAnswers.{tells_short, tells_whole}
use Rattle.abi.proofs.reading.sargaceu_read.Goals as goal
use Rattle.abi.proofs.reading.sargaceu_read.Goals.{Start}

-- the outcome of reading
abbrev outcome : Start → Outcome
outcome s =
    reading (limits_numbered s.args.form) level (room_of s.args.text.now s.args.segments.now s.args.leaves.now) s.args.message.now

pub returns-then-answer-lt-ANSWER : goal.returns-then-answer-lt-ANSWER
returns-then-answer-lt-ANSWER c = tells_short c.args.answer.now (outcome (goal.at.returns-then-answer-lt-ANSWER c).Start) c.if-answer-lt-ANSWER.true c.args.text.now c.args.segments.now c.args.leaves.now

pub shape_of-text : goal.shape_of-text
shape_of-text c = c.read.auto.text

pub shape_of-segments : goal.shape_of-segments
shape_of-segments c = c.read.auto.segments

pub shape_of-leaves : goal.shape_of-leaves
shape_of-leaves c = c.read.auto.leaves

pub returns : goal.returns
returns c =
    tells_whole c.args.answer.now (outcome (goal.at.returns c).Start) c.if-answer-lt-ANSWER.false
    (read_same (ap limits_of c.form_of.ensures) refl c.args.message.now c.read.ensures) c.put_filed.ensures
