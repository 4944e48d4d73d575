-- `abi::answer::put_bytes` meets its contract. The loop's invariant: what is left of the bytes gives what all of them give.
-- The measure is the bytes that are left. Assumes nothing.
use Prim.Native.Nat.{◌-◌}
use lib.ListN.{length}
use Rattle.abi.proofs.Puts.{Underway}
use Rattle.abi.proofs.answer.put_bytes.Given as goal

abbrev pub invariant-loop-at : goal.invariant-loop-at
invariant-loop-at l = Underway l.initial.buffer l.bytes l.buffer l.at

abbrev pub decreases-loop-at : goal.decreases-loop-at
decreases-loop-at l = length l.bytes - l.at
