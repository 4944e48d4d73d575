-- `value::writing::write_value` meets its contract: the tests in their order, and then the text.
-- Assumes nothing.
use mathlib.Core.Path.{◌≡◌, ap, ◌∙◌}
use mir.Syntax.{w64}
use mir.ValLaws.{to_z-of_z}
use Rattle.value.specs.Numerals.{most_digits}
use Rattle.value.specs.inner.Signs.{apart}
use Rattle.value.proofs.ValuesWritten.{wrote_large, wrote_narrow, wrote_text}
use Rattle.value.proofs.writing.write_value.Goals as goal
use Rattle.value.proofs.writing.write_value.Goals.{After-without_sign-negative}

-- the value without its sign, which came as its bits
parts_here : (c : After-without_sign-negative) → c.without_sign-negative.result ≡ apart c.args.whole
parts_here c = c.without_sign-negative.ensures ∙ ap apart (to_z-of_z w64 c.args.whole c.ranges.whole)

pub returns-then-decimals-gt-DIGITS : goal.returns-then-decimals-gt-DIGITS
returns-then-decimals-gt-DIGITS c =
    wrote_large most_digits c.args.whole c.args.decimals c.args.output.now (parts_here (goal.at.returns-then-decimals-gt-DIGITS c).After-without_sign-negative) c.if-decimals-gt-DIGITS.either c.refusal.ensures

pub returns-then-output-lt-ROOM : goal.returns-then-output-lt-ROOM
returns-then-output-lt-ROOM c =
    wrote_narrow most_digits c.args.whole c.args.decimals c.args.output.now (parts_here (goal.at.returns-then-output-lt-ROOM c).After-without_sign-negative) c.if-decimals-gt-DIGITS.false c.if-output-lt-ROOM.true
    c.refusal-then-output-lt-ROOM.ensures

pub returns-else-output-lt-ROOM : goal.returns-else-output-lt-ROOM
returns-else-output-lt-ROOM c =
    wrote_text most_digits c.args.whole c.args.decimals c.args.output.now (parts_here (goal.at.returns-else-output-lt-ROOM c).After-without_sign-negative) c.if-decimals-gt-DIGITS.false c.if-output-lt-ROOM.false
    c.put_value.ensures
