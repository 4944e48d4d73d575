-- `source::row::row_place` meets its contract. The loop's invariant: the row that is sought is so many rows on from here, where no addendum stands.
-- Assumes nothing.
use Prim.Native.Nat.{◌+◌, ◌-◌}
use Rattle.form.specs.Forms.{small_form}
use Rattle.source.proofs.Placing.{Seeking}
use Rattle.source.proofs.row.row_place.Given as goal

abbrev pub invariant-loop-number : goal.invariant-loop-number
invariant-loop-number l = Seeking small_form l.message l.row l.at (l.row + 1 - l._number)
