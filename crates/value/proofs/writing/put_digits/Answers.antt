-- `value::writing::put_digits` meets its contract. The loop's invariant: what is left to store gives the whole.
-- Assumes nothing.
use Rattle.value.proofs.DigitStores.{storing_begins, storing_on, storing_done, storing_number}
use Rattle.value.proofs.writing.put_digits.Goals as goal

pub loop-place-init : goal.loop-place-init
loop-place-init c = storing_begins c.args.magnitude c.args.count c.args.output.now c.args.at c.requires

pub loop-place-preserved : goal.loop-place-preserved
loop-place-preserved c = storing_on c.loop-place.invariant c.loop-place-test.true

pub returns : goal.returns
returns c = (storing_number c.loop-place.invariant c.loop-place-test.false, storing_done c.loop-place.invariant c.loop-place-test.false)
