-- `archive::putting::put_bytes` meets its contract: what is left of the bytes, put from here on, gives what all of them give.
-- Assumes nothing.
use Rattle.read.proofs.AtTheFront.{Putting}
use Rattle.archive.proofs.putting.put_bytes.Given as goal

abbrev pub invariant-loop-at : goal.invariant-loop-at
invariant-loop-at l = Putting l.initial.to l.text l.to l.at
