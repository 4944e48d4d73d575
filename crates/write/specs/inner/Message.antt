-- The message of a table that passed the test, which its segment rows do not change.
-- Assumes nothing.
use Rattle.std.specs.Prelude.{true, List, [], ◌≡◌, ℕ, length}
use Rattle.form.specs.declared.limits.Limits.{Limits}
use Rattle.table.specs.declared.Card.{Card}
use Rattle.table.specs.inner.Back.{lines_of, written}
use Rattle.table.specs.Lent.{lent, counted}
use Rattle.write.specs.Writing.{Writing, writes}
use Rattle.write.specs.inner.ReadsBack.{is_table}

-- what is written for a table, which its segment rows do not change
unfoldable pub message_written : Limits → Card → List ℕ → List ℕ → Writing
message_written L card leaf_rows text =
    writes (written L (counted (lent card [] leaf_rows text))) (length (lines_of L (counted (lent card [] leaf_rows text))))

-- a card, leaf rows and a text that passed the table test, with some segment rows
pub record Tested (L : Limits) (card : Card) (leaf_rows text : List ℕ) : Type 0 where
  pub levels : ℕ → ℕ → ℕ
  pub segment_rows : List ℕ
  pub passed : is_table L levels (lent card segment_rows leaf_rows text) ≡ true
