-- `order::levels::former_table` meets its contract: the constant is the table of the former levels, computed once over the whole.
-- Assumes nothing.
use mathlib.Core.Path.{refl}
use Rattle.laws.specs.Tables.{values}
use Rattle.order.specs.Owners.{former_levels, former_level}
use Rattle.order.specs.inner.Levels.{level_table_of, former_level_table}
use Rattle.order.proofs.levels.former_table.Goals as goal

pub returns : goal.returns
unfolding former_level_table level_table_of former_level former_levels values
returns c = refl
