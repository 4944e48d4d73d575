-- `read::census::count_codes` meets its contract: each turn counts one row, up to a code that is too long or the last row.
-- Assumes nothing.
use mathlib.Core.Path.{◌≡◌}
use lib.ListN.{length}
use Rattle.index.specs.Index.{code_most, entries_in}
use Rattle.read.specs.inner.Census.{carried_in}
use Rattle.read.proofs.CountedAll.{RowsCounted}
use Rattle.read.proofs.census.count_codes.Given as goal

-- the rows so far are counted; the buffers keep their lengths
abbrev pub invariant-loop-row : goal.invariant-loop-row
invariant-loop-row l = RowsCounted (carried_in l.accepted.limits l.accepted.decision.separators l.accepted.message.now) (entries_in l.initial.codes l.initial.counts) l.row l.census l.codes l.counts
    × (length l.codes ≡ length l.initial.codes) × (length l.counts ≡ length l.initial.counts) × (length l.code ≡ code_most)
