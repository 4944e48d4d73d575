-- `write::lines::Lines::close` meets its contract: one store within.
-- Assumes nothing.
use mathlib.Core.Path.{refl}
use Rattle.write.specs.inner.Filling.{segment_closed}
use Rattle.write.proofs.lines.Lines.close.Goals as goal

pub returns : goal.returns
unfolding segment_closed
returns c = refl
