-- What a search in a lent table that passes the table test (W4) may count on.
-- Assumes nothing.
use Rattle.std.specs.Prelude.{true, ◌≡◌, ℕ, ◌+◌, ◌-◌, ◌≤◌, ◌<◌, get_or}
use Rattle.table.specs.Lent.{Lent, within_buffers}
use Rattle.table.specs.Rows.{width, first_in, count_in, place_in, start_in, length_in}
use Rattle.look.specs.declared.leaf.Place.{Place}
use Rattle.look.specs.Looking.{is_named}
use Rattle.look.specs.inner.Searching.{sought_in, sought_in_segment}

-- what is known of a table that some message reads to: counts within the buffers and the rows' width; the leaves of each segment row among those
-- counted; texts within the counted text; and the lookup within a segment answers what the lookup does
pub record Searchable (t : Lent) : Type 0 where
  pub within : within_buffers t ≡ true
  pub few : t.card.segments < width
  pub first : (i : ℕ) → i < t.card.segments → 1 ≤ first_in t.segment_rows i
  pub last : (i : ℕ) → i < t.card.segments → first_in t.segment_rows i - 1 + count_in t.segment_rows i ≤ t.card.leaves
  pub texts : (i : ℕ) → i < t.card.leaves → start_in t.leaf_rows i + length_in t.leaf_rows i ≤ t.card.text
  pub named : (i : ℕ) → i < t.card.leaves → is_named t (get_or (place_in t.leaf_rows i) 0 0) i ≡ true
  pub same : (p : Place) → sought_in_segment t p ≡ sought_in t p
