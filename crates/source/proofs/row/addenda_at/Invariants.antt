-- `source::row::addenda_at` meets its contract. The loop's invariant: with those from here on, the addenda that have passed are all of them, and the
-- place behind them is the same. The measure is what is left of the message.
-- Assumes nothing.
use Prim.Native.Nat.{◌-◌}
use lib.ListN.{length}
use Rattle.form.specs.Forms.{small_form}
use Rattle.source.proofs.Going.{one, Ahead}
use Rattle.source.proofs.row.addenda_at.Given as goal

abbrev pub invariant-loop-behind : goal.invariant-loop-behind
invariant-loop-behind l = Ahead small_form one l.message l.field l.at l.lines l.next

abbrev pub decreases-loop-behind : goal.decreases-loop-behind
decreases-loop-behind l = length l.message - l.next
