-- `write::lines::Lines::break_line` meets its contract: three stores in a row, all within.
-- Assumes nothing.
use native.Mathlib.Numerals.{towards_suc}
use Rattle.write.specs.inner.Filling.{broken}
use Rattle.write.proofs.lines.Lines.break_line.Goals as goal

pub returns : goal.returns
unfolding broken
returns c = simp towards_suc
