-- `read::name::gather` meets its contract. The loop's invariant: what is left of the bytes, gathered on, gives the whole.
-- Assumes nothing.
use Rattle.read.proofs.Naming.{Gathering}
use Rattle.read.proofs.name.gather.Given as goal

abbrev pub invariant-loop-b : goal.invariant-loop-b
invariant-loop-b l = Gathering l.field l.bytes l.fn.name (record { left = l.left; letters = l.letters }) l.b-index
