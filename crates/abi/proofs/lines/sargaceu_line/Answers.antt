-- `abi::lines::sargaceu_line` meets its contract: what stands at the place, told and put into the answer.
-- Assumes nothing.
use mathlib.Core.Path.{sym, ◌∙◌}
use Rattle.form.specs.Forms.{small_form}
use Rattle.line.specs.Finding.{found_at}
use Rattle.abi.proofs.LineAnswers.{line-short, line-found, line-end, line-fault}
use Rattle.abi.proofs.lines.sargaceu_line.Goals as goal

pub returns-then-answer-lt-ANSWER : goal.returns-then-answer-lt-ANSWER
returns-then-answer-lt-ANSWER c = line-short (found_at small_form c.args.message.now c.args.at) c.args.at c.args.answer.now c.if-answer-lt-ANSWER.true

pub returns-in-Line : goal.returns-in-Line
returns-in-Line c =
    line-found c.args.at c.args.answer.now c.if-answer-lt-ANSWER.false c.in-Line.end c.in-Line.next
    (sym c.line_at.ensures ∙ c.in-Line.is) c.told.ensures

pub returns-in-End : goal.returns-in-End
returns-in-End c =
    line-end c.args.at c.args.answer.now c.if-answer-lt-ANSWER.false
    (sym c.line_at.ensures ∙ c.in-End.is) c.told-in-End.ensures

pub returns-in-Fault : goal.returns-in-Fault
returns-in-Fault c =
    line-fault c.args.at c.args.answer.now c.if-answer-lt-ANSWER.false c.in-Fault.number c.in-Fault.place
    (sym c.line_at.ensures ∙ c.in-Fault.is) c.told-in-Fault.ensures
