-- `abi::writing::sargaceu_write` meets its contract: what the writer gives, put into the answer where that has room.
-- Assumes nothing.
use mathlib.Core.Path.{subst}
use Rattle.form.specs.declared.forms.Form.{Form}
use Rattle.form.specs.Forms.{limits_of}
use Rattle.order.specs.Owners.{level}
use Rattle.table.specs.Lent.{lent}
use Rattle.write.specs.Answer.{WroteAs}
use Rattle.abi.specs.Cards.{card_of}
use Rattle.abi.specs.FormNumbers.{limits_numbered}
use Rattle.abi.proofs.WriteAnswers.{write_short, write_whole}
use Rattle.abi.proofs.writing.sargaceu_write.Goals as goal

pub returns-then-answer-lt-ANSWER : goal.returns-then-answer-lt-ANSWER
returns-then-answer-lt-ANSWER c = write_short (limits_numbered c.args.form) (lent (card_of c.args.card.now) c.args.segments.now c.args.leaves.now c.args.text.now) c.args.output.now c.args.answer.now c.if-answer-lt-ANSWER.true

pub shape_of-output : goal.shape_of-output
shape_of-output c = c.write-written.auto.output

pub shape_of-answer : goal.shape_of-answer
shape_of-answer c = c.put_numbers.auto.answer

pub returns : goal.returns
returns c =
    write_whole (limits_numbered c.args.form) c.card_of.result c.card_of.ensures c.args.segments.now c.args.leaves.now c.args.text.now c.args.output.now
    c.args.answer.now c.if-answer-lt-ANSWER.false
    (subst (λ (f : Form). WroteAs (limits_of f) level (lent c.card_of.result c.args.segments.now c.args.leaves.now c.args.text.now) c.args.output.now
    c.write-written.result c.write-written.new.output) c.form_of.ensures c.write-written.ensures) c.put_numbers.ensures
