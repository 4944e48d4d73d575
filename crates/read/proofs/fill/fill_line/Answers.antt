-- `read::fill::fill_line` meets its contract: the line is laid, and the next line begins after the bytes below 32.
-- Assumes nothing.
use native.Mathlib.Omega.{arith}
use Rattle.read.proofs.SegmentLaws.{line-filled}
use Rattle.read.proofs.fill.fill_line.Goals as goal

pub overflow_add-laid : goal.overflow_add-laid
overflow_add-laid c = omega (arith, c.lay_line-laid.ensures.ends, c.requires.lays.ahead, c.well_formed)

pub returns : goal.returns
returns c = line-filled c.lay_line-laid.ensures c.low_end.ensures
