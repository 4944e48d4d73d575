-- What each function of the widening asks.
-- Assumes nothing.
use Rattle.std.specs.Prelude.{true, false, List, ◌≡◌, ℕ, ◌*◌, ◌≤◌, length}
use Rattle.form.specs.declared.limits.Limits.{Limits}
use Rattle.order.specs.inner.Levels.{LevelsBelow}
use Rattle.table.specs.Lent.{Lent, within_limits}
use Rattle.table.specs.Reading.{room_of, short}
use Rattle.table.specs.Rows.{segment_row_size, leaf_row_size}
use Rattle.write.specs.inner.Tests.{KindsStated}
use Rattle.archive.specs.Widening.{ever_read}

-- buffers that hold just the rows that the card counts, and these are no more than the limits allow
pub record JustCounted (L : Limits) (l : Lent) : Type 0 where
  pub segment_rows : length l.segment_rows ≡ l.card.segments * segment_row_size
  pub leaf_rows : length l.leaf_rows ≡ l.card.leaves * leaf_row_size
  pub text : l.card.text ≤ length l.text
  pub few : within_limits L l.card ≡ true

-- rows whose kinds are known, levels that the owners' search knows, and room for as many new rows
pub record RowsFit (levels : ℕ → ℕ → ℕ) (rows : List ℕ) (many : ℕ) (to : List ℕ) : Type 0 where
  pub kinds : KindsStated rows many
  pub low : LevelsBelow levels
  pub room : many * segment_row_size ≤ length to

-- a table that a reader gave, and new buffers that are not short
pub record Widenable (L : Limits) (l : Lent) (text segments leaves : List ℕ) : Type 0 where
  pub given : ever_read L l ≡ true
  pub roomy : short L (room_of text segments leaves) ≡ false
