-- `value::results::put_values` meets its contract. The loop's invariant: what is left to put gives the whole, in each of the three buffers.
-- The measure is the rows that are left. Assumes nothing.
use Prim.Native.Nat.{◌-◌}
use Rattle.table.specs.Lent.{lent}
use Rattle.value.specs.Numerals.{most_digits}
use Rattle.value.proofs.ResultsPut.{Answering}
use Rattle.value.proofs.results.put_values.Given as goal

abbrev pub invariant-loop-row : goal.invariant-loop-row
invariant-loop-row l = Answering most_digits (lent l.card l.segments l.leaves l.text) l.order l.initial.numbers l.initial.wholes l.initial.decimals l.numbers l.wholes l.decimals l.count l.from

abbrev pub decreases-loop-row : goal.decreases-loop-row
decreases-loop-row l = l.card.segments - l.from
