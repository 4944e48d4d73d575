-- `explain::unicode::count_characters` is safe and ends. The loop's invariant: no more characters
-- are counted than bytes are passed. The measure is how much of the text is left.
-- Assumes nothing.
use Prim.Native.Nat.{◌≤◌, ◌+◌}
use lib.ListN.{length}
use Rattle.explain.proofs.unicode.count_characters.Given as goal

abbrev pub invariant-loop-first : goal.invariant-loop-first
invariant-loop-first l = l.count + length l.left ≤ length l.text

abbrev pub decreases-loop-first : goal.decreases-loop-first
decreases-loop-first l = length l.left
