-- The table test of a lent table: its counts, and the table of the counted entries.
-- Assumes nothing.
use mathlib.Core.Bool.{true, false}
use mathlib.Core.List.{List}
use mathlib.Core.Path.{◌≡◌, sym, ap₂, subst⁻¹}
use Prim.Native.Nat.{ℕ}
use native.Mathlib.Omega.{arith}
use Rattle.laws.proofs.Tests.{and_passed, and_both, and_fails_first, and_fails_second}
use Rattle.form.specs.declared.limits.Limits.{Limits}
use Rattle.form.specs.declared.forms.Form.{Form}
use Rattle.form.specs.Forms.{limits_of}
use Rattle.order.specs.inner.Levels.{level_in, LevelsBelow}
use Rattle.order.proofs.LevelTable.{levels_are, levels-below, former-levels_are, former-levels-below}
use Rattle.table.specs.inner.Fitting.{FitsRows}
use Rattle.table.specs.Lent.{Lent, within_limits, within_buffers, counted}
use Rattle.table.proofs.Lent.{few-segments, few-leaves, few_bytes}
use Rattle.table.proofs.Width.{form_fits}
use Rattle.write.specs.inner.ReadsBack.{reads_back, is_table}
use Rattle.write.specs.inner.Tests.{lent_size}
use Rattle.write.specs.declared.size.Owners.{Owners}
use Rattle.write.specs.declared.size.Owners.TheVariants.{InForce, Former}
use Rattle.write.specs.inner.EitherOwners.{levels_by, level_table_by}
use Rattle.write.specs.inner.Asked.{Testable, CountedTable}
use Rattle.write.proofs.LentTables.{counted-sized}

module _ (L : Limits) (levels : ℕ → ℕ → ℕ) (l : Lent) where
  pub limits_refuse : within_limits L l.card ≡ false → false ≡ is_table L levels l
  unfolding is_table
  limits_refuse e = sym (and_fails_first (reads_back L levels (counted l)) (and_fails_first (within_buffers l) e))

  pub buffers_refuse : within_buffers l ≡ false → false ≡ is_table L levels l
  unfolding is_table
  buffers_refuse e = sym (and_fails_first (reads_back L levels (counted l)) (and_fails_second (within_limits L l.card) e))

  module _ (few : within_limits L l.card ≡ true) (within : within_buffers l ≡ true) where
    pub counted_decides : reads_back L levels (counted l) ≡ is_table L levels l
    unfolding is_table
    counted_decides = sym (and_passed (reads_back L levels (counted l)) (and_both few within))

    pub counted-table : Testable L levels → CountedTable L levels (counted l)
    unfolding counted
    counted-table asked =
        let w = asked.fits in
        let segments = few-segments L l.card few in
        let leaves = few-leaves L l.card few in
        record {
          lawful = w.lawful;
          rows =
              record {
                narrow =
                    record {
                      sized = counted-sized l within;
                      segments = omega (arith, segments, w.segments);
                      leaves = omega (arith, leaves, w.leaves);
                      text = omega (arith, few_bytes L l.card few, w.bytes);
                    };
                low = asked.low;
              };
          segments = segments;
          leaves = leaves;
        }

-- either levels are those of their table, and are below `top_level`
owners_are : (o : Owners) {table : List ℕ} → table ≡ level_table_by o → level_in table ≡ levels_by o
unfolding levels_by level_table_by
owners_are InForce made = levels_are made
owners_are Former made = former-levels_are made

owners-below : (o : Owners) {table : List ℕ} → table ≡ level_table_by o → LevelsBelow (level_in table)
unfolding level_table_by
owners-below InForce made = levels-below made
owners-below Former made = former-levels-below made

-- a form's limits, and levels by their table
module _ (f : Form) {L : Limits} (e : L ≡ limits_of f) (o : Owners) {table : List ℕ} (made : table ≡ level_table_by o) where
  pub form_asked : Testable L (level_in table)
  form_asked = record { fits = subst⁻¹ FitsRows e (form_fits f); low = owners-below o made }

  pub form_size : (l : Lent) → lent_size L (level_in table) l ≡ lent_size (limits_of f) (levels_by o) l
  form_size l = ap₂ (λ (M : Limits) (lv : ℕ → ℕ → ℕ). lent_size M lv l) e (owners_are o made)
