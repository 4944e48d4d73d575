-- `abi::indexing::sargaceu_read_indexed` meets its contract: what reading with the index leaves, told where answer and tally have room.
-- Assumes nothing.
use mathlib.Core.Path.{ap}
use Rattle.form.specs.Forms.{limits_of}
use Rattle.abi.specs.FormNumbers.{limits_numbered}
use Rattle.abi.proofs.IndexAnswers.{indexed_short_answer, indexed_short_tally, indexed_whole, indexed_same}
use Rattle.abi.proofs.indexing.sargaceu_read_indexed.Goals as goal

pub returns-then-answer-lt-ANSWER : goal.returns-then-answer-lt-ANSWER
returns-then-answer-lt-ANSWER c =
    indexed_short_answer (limits_numbered c.args.form) c.args.message.now c.args.text.now c.args.segments.now c.args.leaves.now c.args.codes.now c.args.counts.now
    c.args.tally.now c.args.answer.now c.if-answer-lt-ANSWER.true

pub returns-then-tally-lt-TALLY : goal.returns-then-tally-lt-TALLY
returns-then-tally-lt-TALLY c =
    indexed_short_tally (limits_numbered c.args.form) c.args.message.now c.args.text.now c.args.segments.now c.args.leaves.now c.args.codes.now c.args.counts.now
    c.args.tally.now c.args.answer.now c.if-tally-lt-TALLY.true

pub returns : goal.returns
returns c =
    indexed_whole (limits_numbered c.args.form) c.args.message.now c.args.text.now c.args.segments.now c.args.leaves.now c.args.codes.now c.args.counts.now
    c.args.tally.now c.args.answer.now c.if-answer-lt-ANSWER.false c.if-tally-lt-TALLY.false
    (indexed_same (ap limits_of c.form_of-named.ensures) c.tally_of-before.ensures c.args.message.now c.read_indexed-indexed.ensures)
    c.put_tally.ensures c.put_filed.ensures
