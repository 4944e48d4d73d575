-- `write::lines::Lines::put_text` meets its contract: each turn fills a line and breaks it, and what is left of the text gives the whole.
-- Assumes nothing.
use Prim.Native.Nat.{◌+◌, ◌-◌, ◌*◌}
use lib.ListN.{length}
use Rattle.write.specs.inner.Filling.{stand}
use Rattle.write.proofs.TextLeft.{TextLeft}
use Rattle.write.proofs.lines.Lines.put_text.Given as goal

abbrev pub invariant-loop-going : goal.invariant-loop-going
invariant-loop-going l = TextLeft l.self.limits l.self.separators.field (stand l.initial.output l.initial.going) l.text (stand l.output l.going) l.left

-- a turn that begins with a full line takes no byte, but the next line has room
abbrev pub decreases-loop-going : goal.decreases-loop-going
decreases-loop-going l = length l.left * 2 + (1 - l.going.room)
