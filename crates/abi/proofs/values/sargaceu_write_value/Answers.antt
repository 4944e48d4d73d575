-- `abi::values::sargaceu_write_value` meets its contract: what the value writer gives, put into the answer where that has room.
-- Assumes nothing.
use mathlib.Core.Path.{subst}
use lib.IntN.{ℤ}
use mir.Syntax.{w64}
use mir.ValLaws.{to_z-of_z}
use Rattle.value.specs.Numerals.{most_digits}
use Rattle.value.specs.Writing.{WroteValue}
use Rattle.abi.proofs.ValueAnswers.{spelling-short, spelling-whole}
use Rattle.abi.proofs.values.sargaceu_write_value.Goals as goal

pub returns-then-answer-lt-TEXT_ANSWER : goal.returns-then-answer-lt-TEXT_ANSWER
returns-then-answer-lt-TEXT_ANSWER c = spelling-short c.args.whole c.args.decimals c.args.output.now c.args.answer.now c.if-answer-lt-TEXT_ANSWER.true

pub returns : goal.returns
returns c =
    spelling-whole c.args.whole c.args.decimals c.args.output.now c.args.answer.now c.if-answer-lt-TEXT_ANSWER.false
    (subst (λ (z : ℤ). WroteValue most_digits z c.args.decimals c.args.output.now c.write_value-written.result c.write_value-written.new.output)
    (to_z-of_z w64 c.args.whole c.ranges.whole) c.write_value-written.ensures)
    c.put_numbers.ensures
