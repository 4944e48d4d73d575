-- The table test (W4), as it computes: write the table, read what was written, compare. What it says of a table stands in the page of demands.
-- Assumes nothing.
use Rattle.std.specs.Prelude.{Bool, false, ◌&&◌, ℕ, eqb}
use Rattle.laws.specs.Lists.{same}
use Rattle.form.specs.declared.limits.Limits.{Limits}
use Rattle.table.specs.declared.Card.{Card}
use Rattle.table.specs.Rows.{Table}
use Rattle.table.specs.Reading.{Outcome, refused, accepted, stated, reading}
use Rattle.table.specs.Lent.{Lent, within_limits, within_buffers, counted}
use Rattle.table.specs.inner.Back.{written}

-- whether two cards, two tables are the same
unfoldable pub same_card : Card → Card → Bool
same_card c d =
    eqb c.separator d.separator
    && eqb c.context d.context
    && eqb c.segments d.segments
    && eqb c.leaves d.leaves
    && eqb c.text d.text

unfoldable pub same_table : Table → Table → Bool
same_table t u =
    same_card t.card u.card
    && same t.segment_rows u.segment_rows
    && same t.leaf_rows u.leaf_rows
    && same t.text u.text

-- whether an outcome is a table
unfoldable pub gives_table : Table → Outcome → Bool
gives_table t (refused number place) = false
gives_table t (accepted u) = same_table t u

-- the table test (W4): whether what would be written reads to the table; where it does not, no other message does
unfoldable pub reads_back : Limits → (ℕ → ℕ → ℕ) → Table → Bool
reads_back L levels t = gives_table t (reading L levels (stated L) (written L t))

-- the table test of a lent table, whatever it holds: its counts keep to the limits and to its buffers, and the counted entries pass
unfoldable pub is_table : Limits → (ℕ → ℕ → ℕ) → Lent → Bool
is_table L levels l = within_limits L l.card && within_buffers l && reads_back L levels (counted l)
