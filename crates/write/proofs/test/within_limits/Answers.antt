-- `write::test::within_limits` meets its contract: the three counts by the three limits.
-- Assumes nothing.
use Rattle.std.proofs.lemmas.Grind.{common_steps}
use native.Mathlib.Omega.{arith}
use Rattle.table.specs.Lent.{within_limits}
use Rattle.write.proofs.test.within_limits.Goals as goal

pub returns-then-card-limits-2 : goal.returns-then-card-limits-2
unfolding within_limits
returns-then-card-limits-2 c = grind (arith, common_steps)

pub returns-else-card-limits-2 : goal.returns-else-card-limits-2
unfolding within_limits
returns-else-card-limits-2 c = grind (arith, common_steps)
