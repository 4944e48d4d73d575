-- `abi::values::sargaceu_order_values` meets its contract: the values of the order, with place and count put into the answer where that has room.
-- Assumes nothing.
use mathlib.Core.Path.{subst₂}
use Rattle.form.specs.declared.forms.Form.{Form}
use Rattle.form.specs.Forms.{limits_of}
use Rattle.order.specs.Owners.{level}
use Rattle.table.specs.declared.Card.{Card}
use Rattle.table.specs.Lent.{Lent, lent}
use Rattle.value.specs.Numerals.{most_digits}
use Rattle.value.specs.Results.{ReadValues}
use Rattle.abi.specs.Cards.{card_of}
use Rattle.abi.specs.FormNumbers.{limits_numbered}
use Rattle.abi.proofs.ValueAnswers.{results-short, results-whole}
use Rattle.abi.proofs.values.sargaceu_order_values.Goals as goal
use Rattle.abi.proofs.values.sargaceu_order_values.Goals.{Start}

-- the table that came in, by the numbers of its card
abbrev lent_here : Start → Lent
lent_here c = lent (card_of c.args.card.now) c.args.segments.now c.args.leaves.now c.args.text.now

pub returns-then-answer-lt-ORDER_ANSWER : goal.returns-then-answer-lt-ORDER_ANSWER
returns-then-answer-lt-ORDER_ANSWER c = results-short (limits_numbered c.args.form) (lent_here (goal.at.returns-then-answer-lt-ORDER_ANSWER c).Start) c.args.order c.args.numbers.now c.args.wholes.now c.args.decimals.now c.args.answer.now c.if-answer-lt-ORDER_ANSWER.true

pub returns : goal.returns
returns c =
    results-whole (limits_numbered c.args.form) (lent_here (goal.at.returns c).Start) c.args.order c.args.numbers.now c.args.wholes.now c.args.decimals.now c.args.answer.now c.if-answer-lt-ORDER_ANSWER.false
    (subst₂
    (λ (f : Form) (card : Card).
    ReadValues (limits_of f) level most_digits (lent card c.args.segments.now c.args.leaves.now c.args.text.now) c.args.order c.args.numbers.now c.args.wholes.now
    c.args.decimals.now c.order_values-read.result c.order_values-read.new.numbers
    c.order_values-read.new.wholes c.order_values-read.new.decimals)
    c.form_of.ensures c.card_of.ensures c.order_values-read.ensures)
    c.put_numbers.ensures
