-- `abi::answer::put_numbers` meets its contract. The loop's invariant: what is left of the numbers gives what all of them give.
-- The measure is the numbers that are left. Assumes nothing.
use Prim.Native.Nat.{◌-◌}
use lib.ListN.{length}
use Rattle.abi.proofs.Puts.{Underway}
use Rattle.abi.proofs.answer.put_numbers.Given as goal

abbrev pub invariant-loop-at : goal.invariant-loop-at
invariant-loop-at l = Underway l.initial.answer l.numbers l.answer l.at

abbrev pub decreases-loop-at : goal.decreases-loop-at
decreases-loop-at l = length l.numbers - l.at
