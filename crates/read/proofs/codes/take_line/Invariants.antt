-- `read::codes::take_line` meets its contract: each turn gathers one byte, up to the line's end or the code's.
-- Assumes nothing.
use Prim.Native.Nat.{◌-◌}
use lib.ListN.{length}
use Rattle.read.proofs.TakenLines.{Taking}
use Rattle.read.proofs.codes.take_line.Given as goal

abbrev pub invariant-loop-left : goal.invariant-loop-left
invariant-loop-left l = Taking l.class l.message l.initial.at l.initial.left l.initial.length l.initial.code l.at l.left l.length l.code

abbrev pub decreases-loop-left : goal.decreases-loop-left
decreases-loop-left l = length l.message - l.at
