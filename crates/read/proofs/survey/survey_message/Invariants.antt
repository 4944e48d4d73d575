-- `survey_message` meets its contract. The loop's invariant: at `at` stands a line whose text is joined from `from` on, the first behind its
-- header bytes, and the kinds of the closed segments and the starts of those begun are noted; each line leads to a later place, and at the
-- message's end all is known.
-- Assumes nothing.
use Prim.Native.Nat.{◌-◌}
use lib.ListN.{length}
use Rattle.read.proofs.Noting.{Noting}
use Rattle.read.proofs.survey.survey_message.Given as goal

abbrev pub invariant-loop-step : goal.invariant-loop-step
invariant-loop-step l = Noting l.limits l.separators l.message l.at l.from l.seen l.initial.kinds l.kinds l.initial.starts l.starts

abbrev pub decreases-loop-step : goal.decreases-loop-step
decreases-loop-step l = length l.message - l.at
