-- The bytes that are written for a lent table, by what the table test finds.
-- Assumes nothing.
use Rattle.std.specs.Prelude.{Option, Some, None, is_some, unwrap_or}
use mathlib.Core.Bool.{true, false, not}
use mathlib.Core.Path.{◌≡◌, sym, ap, ◌∙◌}
use Prim.Native.Nat.{ℕ, ◌≤◌}
use native.Mathlib.Omega.{arith}
use lib.Dec.{eqb}
use lib.ListN.{length}
use borrow.Author.Tests.{eq-eqb, ne_eqb, le-ltb}
use Rattle.laws.proofs.Tests.{Tested, passed, failed, tested}
use Rattle.form.specs.declared.limits.Limits.{Limits}
use Rattle.form.specs.Limits.{Lawful}
use Rattle.form.proofs.HeaderRule.{sound-header}
use Rattle.table.specs.Reading.{stated}
use Rattle.table.specs.inner.Back.{lines_of, written}
use Rattle.table.specs.Lent.{Lent, within_limits, within_buffers, counted}
use Rattle.table.proofs.Accepting.{accepting}
use Rattle.write.specs.inner.ReadsBack.{reads_back, is_table}
use Rattle.write.specs.Answer.{answer, written_size}
use Rattle.write.specs.inner.Tests.{size_back, lent_size}
use Rattle.write.proofs.LentTables.{table-written-out, no_table_refused, writes_back}
use Rattle.write.proofs.LentTest.{counted_decides}
use Rattle.write.proofs.TableTest.{size-there, size_none}

module _ (L : Limits) (lawful : Lawful L) (levels : ℕ → ℕ → ℕ) (l : Lent) where
  table-size : is_table L levels l ≡ true → written_size L levels l ≡ length (written L (counted l))
  unfolding written_size answer
  table-size e = ap (λ v. (answer v).bytes) (table-written-out L lawful levels l L.bytes (le-ltb L.bytes L.bytes (omega arith)) e)

  pub no_table_size : is_table L levels l ≡ false → written_size L levels l ≡ 0
  unfolding written_size answer
  no_table_size e = ap (λ v. (answer v).bytes) (no_table_refused L lawful levels l L.bytes (le-ltb L.bytes L.bytes (omega arith)) e)

  -- a message has bytes, its header's at least
  some_written : is_table L levels l ≡ true → 1 ≤ written_size L levels l
  some_written e =
      let m = written L (counted l) in
      let out = table-written-out L lawful levels l L.bytes (le-ltb L.bytes L.bytes (omega arith)) e in
      let back = writes_back L lawful levels l L.bytes m (length (lines_of L (counted l))) out in
      let w = (accepting L levels (stated L) m (counted l)).0 back.reads in
      omega (arith, table-size e, (sound-header m w.separators w.header).long)

  -- so the table test is passed exactly where some are written
  pub size_decides : {r : ℕ} → r ≡ written_size L levels l → not (eqb r 0) ≡ is_table L levels l
  size_decides {r} is = go (tested (is_table L levels l))
    where
      go : Tested (is_table L levels l) → not (eqb r 0) ≡ is_table L levels l
      go (passed e) = ap not (ne_eqb r 0 (λ z. let n : ⊥ = omega (arith, some_written e, is) in n)) ∙ sym e
      go (failed e) = ap not (eq-eqb r 0 (is ∙ no_table_size e)) ∙ sym e

module _ (L : Limits) (levels : ℕ → ℕ → ℕ) (l : Lent) where
  -- the cases of `lent_size`
  size_where : is_table L levels l ≡ true → lent_size L levels l ≡ Some (length (written L (counted l)))
  unfolding lent_size
  size_where e = rw (e, lent_size)

  pub no_lent_size : is_table L levels l ≡ false → lent_size L levels l ≡ None
  unfolding lent_size
  no_lent_size e = rw (e, lent_size)

  -- where the counts keep to the limits and the buffers, they are the bytes of the counted entries
  pub counted-size : within_limits L l.card ≡ true → within_buffers l ≡ true → size_back L levels (counted l) ≡ lent_size L levels l
  counted-size few within = go (tested (reads_back L levels (counted l)))
    where
      go : Tested (reads_back L levels (counted l)) → size_back L levels (counted l) ≡ lent_size L levels l
      go (passed e) = size-there L levels (counted l) e ∙ sym (size_where (sym (counted_decides L levels l few within) ∙ e))
      go (failed e) = size_none L levels (counted l) e ∙ sym (no_lent_size (sym (counted_decides L levels l few within) ∙ e))

  -- the table test is passed exactly where there are some
  pub lent_size_decides : is_some (lent_size L levels l) ≡ is_table L levels l
  lent_size_decides = go (tested (is_table L levels l))
    where
      go : Tested (is_table L levels l) → is_some (lent_size L levels l) ≡ is_table L levels l
      go (passed e) = ap (λ (o : Option ℕ). is_some o) (size_where e) ∙ sym e
      go (failed e) = ap (λ (o : Option ℕ). is_some o) (no_lent_size e) ∙ sym e

  -- 0 stands for none in the size of an answer
  pub size-written : Lawful L → unwrap_or (lent_size L levels l) 0 ≡ written_size L levels l
  size-written lawful = go (tested (is_table L levels l))
    where
      go : Tested (is_table L levels l) → unwrap_or (lent_size L levels l) 0 ≡ written_size L levels l
      go (passed e) = ap (λ (o : Option ℕ). unwrap_or o 0) (size_where e) ∙ sym (table-size L lawful levels l e)
      go (failed e) = ap (λ (o : Option ℕ). unwrap_or o 0) (no_lent_size e) ∙ sym (no_table_size L lawful levels l e)
