-- `screener::lent::Lent::count_coded` is safe and ends. The loop's invariant: no more results are counted than rows are passed, so the count fits.
-- Assumes nothing.
use Prim.Native.Nat.{◌≤◌}
use Rattle.screener.proofs.lent.Lent.count_coded.Given as goal

abbrev pub invariant-loop-before : goal.invariant-loop-before
invariant-loop-before l = l.count ≤ l.before
