-- `value::numeral::digit_run` meets its contract. The loop's invariant: the digits from here on give the whole run.
-- Assumes nothing.
use Rattle.value.specs.Numerals.{most_digits}
use Rattle.value.proofs.Runs.{Running}
use Rattle.value.proofs.numeral.digit_run.Given as goal

abbrev pub invariant-loop-count : goal.invariant-loop-count
invariant-loop-count l = Running most_digits l.text l.before l.count l.magnitude
