-- `archive::putting::put_numbers` meets its contract: what is left of the numbers, put from here on, gives what all of them give.
-- Assumes nothing.
use Rattle.read.proofs.AtTheFront.{Putting}
use Rattle.archive.proofs.putting.put_numbers.Given as goal

abbrev pub invariant-loop-at : goal.invariant-loop-at
invariant-loop-at l = Putting l.initial.to l.numbers l.to l.at
