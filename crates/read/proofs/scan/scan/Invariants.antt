-- `read::scan::scan` meets its contract. The loop's invariant: what is left from `i` on gives the whole (`Scanning`).
-- Assumes nothing.
use Rattle.read.proofs.Scanning.{Scanning}
use Rattle.read.proofs.scan.scan.Given as goal

abbrev pub invariant-loop-i : goal.invariant-loop-i
invariant-loop-i l = Scanning l.class l.message l.from l.stop l.i l.separators
