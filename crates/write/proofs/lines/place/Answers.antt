-- `write::lines::place` meets its contract: one store within.
-- Assumes nothing.
use mathlib.Core.Path.{refl}
use Rattle.write.specs.inner.Filling.{placed}
use Rattle.write.proofs.lines.place.Goals as goal

pub returns : goal.returns
unfolding placed
returns c = refl
