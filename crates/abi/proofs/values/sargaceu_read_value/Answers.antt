-- `abi::values::sargaceu_read_value` meets its contract: what the text says, put into the answer where that has room.
-- Assumes nothing.
use mathlib.Core.List.{[], ◌∷◌}
use native.Mathlib.Omega.{arith}
use lib.Seq.{sets}
use mir.Syntax.{w64}
use mir.ValLaws.{to_z_pos}
use Rattle.value.proofs.SignedValues.{value_bits, value-decimals}
use Rattle.abi.proofs.ValueAnswers.{value-short, value-whole}
use Rattle.abi.proofs.values.sargaceu_read_value.Goals as goal

pub returns-then-answer-lt-VALUE_ANSWER : goal.returns-then-answer-lt-VALUE_ANSWER
returns-then-answer-lt-VALUE_ANSWER c = value-short c.args.text.now c.args.answer.now c.if-answer-lt-VALUE_ANSWER.true

pub overflow_cast-decimals : goal.overflow_cast-decimals
overflow_cast-decimals c = record { sfits = omega (arith, value-decimals c.args.text.now c.read_value-value.ensures) }

pub returns : goal.returns
returns c =
    value-whole c.args.text.now c.args.answer.now c.if-answer-lt-VALUE_ANSWER.false c.read_value-value.ensures
    (λ i.
    sets c.args.answer.now 0
    (value_bits c.args.text.now c.read_value-value.ensures i
    ∷ to_z_pos w64 c.read_value-value.result.decimals (omega (arith, value-decimals c.args.text.now c.read_value-value.ensures)) i
    ∷ []))
