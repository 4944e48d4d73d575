-- `value::results::count_results` meets its contract. The loop's invariant: what is left gives the whole count.
-- The measure is the rows that are left. Assumes nothing.
use Prim.Native.Nat.{◌-◌}
use Rattle.table.specs.Lent.{lent}
use Rattle.value.proofs.ResultsPut.{ResultsSeen}
use Rattle.value.proofs.results.count_results.Given as goal

abbrev pub invariant-loop-row : goal.invariant-loop-row
invariant-loop-row l = ResultsSeen (lent l.card l.segments l.leaves l.text) l.order l.from l.count

abbrev pub decreases-loop-row : goal.decreases-loop-row
decreases-loop-row l = l.card.segments - l.from
