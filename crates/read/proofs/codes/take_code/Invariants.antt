-- `read::codes::take_code` meets its contract: each turn looks at one line of the segment, up to the code's end or the segment's.
-- Assumes nothing.
use Prim.Native.Nat.{◌-◌}
use lib.ListN.{length}
use Rattle.form.specs.declared.limits.Limits.{Limits}
use Rattle.read.proofs.CodeLines.{AtCode}
use Rattle.read.proofs.codes.take_code.Given as goal

-- whatever the limits: from the first line's place the lines lead to this one's
abbrev pub invariant-loop-length : goal.invariant-loop-length
invariant-loop-length l = (L : Limits) → AtCode L l.accepted.class.now l.accepted.kinds.now l.accepted.decision.separators l.accepted.decision.context l.accepted.message.now l.row (length l.initial.code) l.initial.taken.at l.initial.taken.left l.initial.taken.length l.initial.code
    → AtCode L l.accepted.class.now l.accepted.kinds.now l.accepted.decision.separators l.accepted.decision.context l.accepted.message.now l.row (length l.initial.code) l.taken.at l.taken.left l.taken.length l.code

abbrev pub decreases-loop-length : goal.decreases-loop-length
decreases-loop-length l = length l.accepted.message.now - l.taken.at
