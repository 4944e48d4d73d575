-- The levels by which the owners of a table are tested (rules O1, O4): those in force, or the former ones.
-- Assumes nothing.
use Rattle.std.specs.Prelude.{List, ℕ}
use Rattle.order.specs.Owners.{level, former_level}
use Rattle.order.specs.inner.Levels.{level_table, former_level_table}
use Rattle.write.specs.declared.size.Owners.{Owners}
use Rattle.write.specs.declared.size.Owners.TheVariants.{InForce, Former}

unfoldable pub levels_by : Owners → ℕ → ℕ → ℕ
levels_by InForce = level
levels_by Former = former_level

-- and their table
unfoldable pub level_table_by : Owners → List ℕ
level_table_by InForce = level_table
level_table_by Former = former_level_table
