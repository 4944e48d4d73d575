-- `abi::screening::sargaceu_screen` meets its contract: the verdict on the table that came in, put into the answer where that has room.
-- Assumes nothing.
use mathlib.Core.Path.{ap, ◌∙◌}
use Rattle.form.specs.declared.forms.Form.{Form}
use Rattle.form.specs.Forms.{limits_of}
use Rattle.order.specs.Owners.{level}
use Rattle.table.specs.Lent.{lent}
use Rattle.screen.specs.Verdicts.{screened}
use Rattle.abi.specs.Cards.{card_of}
use Rattle.abi.specs.FormNumbers.{limits_numbered}
use Rattle.abi.proofs.ScreenAnswers.{screen_short, screen_whole}
use Rattle.abi.proofs.screening.sargaceu_screen.Goals as goal

pub returns-then-answer-lt-SCREEN_ANSWER : goal.returns-then-answer-lt-SCREEN_ANSWER
returns-then-answer-lt-SCREEN_ANSWER c = screen_short (limits_numbered c.args.form) (lent (card_of c.args.card.now) c.args.segments.now c.args.leaves.now c.args.text.now) c.args.answer.now c.if-answer-lt-SCREEN_ANSWER.true

pub returns : goal.returns
returns c =
    screen_whole (limits_numbered c.args.form) c.card_of.result c.card_of.ensures c.args.segments.now c.args.leaves.now c.args.text.now c.args.answer.now
    c.if-answer-lt-SCREEN_ANSWER.false
    (c.screen-verdict.ensures
    ∙ ap (λ (f : Form). screened (limits_of f) level (lent c.card_of.result c.args.segments.now c.args.leaves.now c.args.text.now)) c.form_of.ensures) c.put_numbers.ensures
