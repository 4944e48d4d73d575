-- Table tests that the contracts shut out: each would pass a table that no message reads to (W4).
-- Assumes nothing.
use mathlib.Core.Bool.{true, false}
use mathlib.Core.Path.{◌≡◌, ap, ◌∙◌}
use Prim.Native.Nat.{ℕ}
use lib.ListN.{length}
use Rattle.laws.specs.Lists.{same}
use Rattle.laws.proofs.Tests.{never_both}
use Rattle.form.specs.declared.limits.Limits.{Limits}
use Rattle.form.specs.Limits.{Lawful}
use Rattle.order.specs.Owners.{owners}
use Rattle.table.specs.Rows.{text_of}
use Rattle.table.specs.inner.Back.{leaves_of}
use Rattle.table.specs.Lent.{Lent, counted}
use Rattle.write.specs.inner.Tests.{kind_column, owner_column}
use Rattle.write.specs.inner.ReadsBack.{is_table}
use Rattle.write.proofs.RowByRow.{rows_local}
use Rattle.write.proofs.LentTables.{counted-sized, is_table_rows}
use Rattle.write.proofs.TableTest.{rows-passed}

module _ (L : Limits) (lawful : Lawful L) (levels : ℕ → ℕ → ℕ) (l : Lent) where
  -- a table test that ignores owners
  pub ignores_owners : same (owner_column (counted l).segment_rows l.card.segments)
      (owners (levels l.card.context) (kind_column (counted l).segment_rows l.card.segments)) ≡ false
      → is_table L levels l ≡ true → ⊥
  unfolding counted
  ignores_owners wrong e =
      let w = (is_table_rows L lawful levels l).0 e in
      never_both (rows-passed L levels (counted l) (counted-sized l w.0) w.1).rows.owned wrong

  -- one that ignores the card's count of text bytes
  pub ignores_text_count : (l.card.text ≡ length (text_of (leaves_of (counted l))) → ⊥) → is_table L levels l ≡ true → ⊥
  unfolding counted
  ignores_text_count wrong e =
      let w = (is_table_rows L lawful levels l).0 e in
      let local = rows_local (counted-sized l w.0) w.1 in
      wrong (local.text_count ∙ ap length local.text)
