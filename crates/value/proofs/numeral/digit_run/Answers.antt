-- `value::numeral::digit_run` meets its contract. The loop's invariant: the digits from here on give the whole run.
-- Assumes nothing.
use lib.ListN.{get_or}
use Rattle.value.specs.Numerals.{most_digits}
use Rattle.value.proofs.DigitTexts.{digit_tested}
use Rattle.value.proofs.Runs.{running_begins, running_stops, running_ends, running_on}
use Rattle.value.proofs.numeral.digit_run.Goals as goal

pub loop-count-init : goal.loop-count-init
loop-count-init c = running_begins most_digits c.args.text.now c.args.before

pub returns-then-not-is_ascii_digit : goal.returns-then-not-is_ascii_digit
returns-then-not-is_ascii_digit c =
    running_stops c.loop-count.invariant c.loop-count-test.true
    (digit_tested (get_or c.args.text.now c.loop-count.count 0) c.is_ascii_digit.ensures.value c.if-not-is_ascii_digit.true)

pub with_digit-magnitude-requires : goal.with_digit-magnitude-requires
with_digit-magnitude-requires c = digit_tested (get_or c.args.text.now c.loop-count.count 0) c.is_ascii_digit.ensures.value c.if-not-is_ascii_digit.false

pub loop-count-preserved : goal.loop-count-preserved
loop-count-preserved c =
    running_on c.loop-count.invariant c.loop-count-test.true
    (digit_tested (get_or c.args.text.now c.loop-count.count 0) c.is_ascii_digit.ensures.value c.if-not-is_ascii_digit.false)
    c.with_digit-magnitude.ensures

pub returns : goal.returns
returns c = running_ends c.loop-count.invariant c.loop-count-test.false c.loop-count.auto.count-end
