-- `index::adding::move_codes` meets its contract: what stood from i up to the end stands a place further. Assumes nothing.
use Rattle.index.specs.Index.{place_size}
use Rattle.index.proofs.Moving.{Moving}
use Rattle.index.proofs.adding.move_codes.Given as goal

abbrev pub invariant-loop-i : goal.invariant-loop-i
invariant-loop-i l = Moving l.initial.codes place_size l.from l.end l.codes l.i

abbrev pub decreases-loop-i : goal.decreases-loop-i
decreases-loop-i l = l.i
