-- `value::numeral::read_numeral` meets its contract: by where the digits end, and by the byte that ends them.
-- Assumes nothing.
use mathlib.Core.Path.{refl}
use native.Mathlib.Omega.{arith}
use Rattle.value.specs.Numerals.{most_digits}
use Rattle.value.specs.inner.Said.{told}
use Rattle.value.proofs.TextsSaid.{part_begins, part_empty, count_within, said_whole, said_stopped, said_pointed, said_pointed_stopped}
use Rattle.value.proofs.numeral.read_numeral.Goals as goal

pub slice_bounds-rest-count : goal.slice_bounds-rest-count
slice_bounds-rest-count c = count_within most_digits c.args.text.now c.is_negative-negative.ensures c.unsigned_text-digits.ensures c.digit_run-whole.ensures

pub slice_bounds-rest-start : goal.slice_bounds-rest-start
slice_bounds-rest-start c =
    omega (arith, count_within most_digits c.args.text.now c.is_negative-negative.ensures c.unsigned_text-digits.ensures c.digit_run-whole.ensures)

pub returns-in-empty : goal.returns-in-empty
returns-in-empty c =
    said_whole most_digits c.args.text.now c.is_negative-negative.ensures c.unsigned_text-digits.ensures c.digit_run-whole.ensures
    (part_empty c.digit_run-whole.result.0 c.unsigned_text-digits.result.now c.in-empty.len_below) c.judged.ensures

pub returns-then-decimals-behind : goal.returns-then-decimals-behind
returns-then-decimals-behind c =
    said_pointed most_digits c.args.text.now c.is_negative-negative.ensures c.unsigned_text-digits.ensures c.digit_run-whole.ensures
    (part_begins c.digit_run-whole.result.0 c.unsigned_text-digits.result.now c.in-46.len_at_least (omega arith)) c.digit_run-decimals.ensures
    c.if-decimals-behind.true c.judged-then-decimals-behind.ensures

pub returns-else-decimals-behind : goal.returns-else-decimals-behind
unfolding told
returns-else-decimals-behind c =
    said_pointed_stopped most_digits c.args.text.now c.is_negative-negative.ensures c.unsigned_text-digits.ensures c.digit_run-whole.ensures
    (part_begins c.digit_run-whole.result.0 c.unsigned_text-digits.result.now c.in-46.len_at_least (omega arith)) c.digit_run-decimals.ensures
    c.if-decimals-behind.false

pub returns-in_default : goal.returns-in_default
unfolding told
returns-in_default c =
    said_stopped most_digits c.args.text.now c.is_negative-negative.ensures c.unsigned_text-digits.ensures c.digit_run-whole.ensures
    (part_begins c.digit_run-whole.result.0 c.unsigned_text-digits.result.now c.in_default.len_at_least refl) (λ e. omega (arith, e))
