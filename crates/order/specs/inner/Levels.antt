-- Levels (rule O1) as one table of numbers, for any levels of contexts and kinds.
-- Assumes nothing.
use Rattle.std.specs.Prelude.{true, false, ◌&&◌, List, ℕ, ◌+◌, ◌*◌, ◌-◌, ◌/◌, ◌%◌, ◌<◌, leb, get_or}
use Rattle.laws.specs.Tables.{values}
use Rattle.order.specs.Contexts.{is_context}
use Rattle.order.specs.Owners.{level, former_level}

-- the level of a kind in a context by a table: contexts count from 1 and have twelve numbers each, by the kind
unfoldable pub level_in : List ℕ → ℕ → ℕ → ℕ
level_in table c k = elim (is_context c && leb k 11) [ true ↦ get_or table ((c - 1) * 12 + k) 0 | false ↦ 0 ]

-- the table of some levels
unfoldable pub level_table_of : (ℕ → ℕ → ℕ) → List ℕ
level_table_of lv = values (λ i. lv (i / 12 + 1) (i % 12)) 0 84

-- the table of the levels in force, and of the former ones
unfoldable pub level_table : List ℕ
level_table = level_table_of level

unfoldable pub former_level_table : List ℕ
former_level_table = level_table_of former_level

-- the number above all levels, and that levels are below it: so a kind's level is a place in what is known of the rows so far
abbrev pub top_level : ℕ
top_level = 8

abbrev pub LevelsBelow : (ℕ → ℕ → ℕ) → Type 0
LevelsBelow lv = (context kind : ℕ) → lv context kind < top_level
