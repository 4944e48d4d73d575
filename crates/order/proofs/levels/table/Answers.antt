-- `order::levels::table` meets its contract: the constant is the table of the levels in force, computed once over the whole.
-- Assumes nothing.
use mathlib.Core.Path.{refl}
use Rattle.laws.specs.Tables.{values}
use Rattle.order.specs.Owners.{levels, level}
use Rattle.order.specs.inner.Levels.{level_table_of, level_table}
use Rattle.order.proofs.levels.table.Goals as goal

pub returns : goal.returns
unfolding level_table level_table_of level levels values
returns c = refl
