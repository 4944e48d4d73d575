-- `value::writing::put_digits` meets its contract. The loop's invariant: what is left to store gives the whole.
-- Assumes nothing.
use Rattle.value.proofs.DigitStores.{Storing}
use Rattle.value.proofs.writing.put_digits.Given as goal

abbrev pub invariant-loop-place : goal.invariant-loop-place
invariant-loop-place l = Storing l.magnitude l.count l.initial.output l.at l.output l.left l.place
