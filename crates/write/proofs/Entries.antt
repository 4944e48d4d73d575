-- What a lent buffer holds beyond the counted entries changes no answer (T7).
-- Assumes nothing.
use mathlib.Core.Bool.{Bool, true, false, ◌&&◌}
use mathlib.Core.Path.{◌≡◌, ap₂}
use Prim.Native.Nat.{ℕ}
use lib.Dec.{ltb}
use lib.ListN.{length}
use Rattle.form.specs.declared.limits.Limits.{Limits}
use Rattle.form.specs.Numbers.{short_output, no_table_number}
use Rattle.table.specs.Rows.{Table}
use Rattle.table.specs.inner.Back.{lines_of, written}
use Rattle.table.specs.Lent.{Lent, within_limits, within_buffers, counted}
use Rattle.write.specs.Writing.{Writing, refuses, writes, writing}
use Rattle.write.specs.inner.ReadsBack.{reads_back, is_table}

module _ (L : Limits) (levels : ℕ → ℕ → ℕ) where
  -- what the two answers are made of
  test : Bool → Table → Bool
  test within t = within_limits L t.card && within && reads_back L levels t

  wrote : Bool → Table → ℕ → Writing
  wrote b t output =
      elim (ltb output L.bytes) [
        | true ↦ refuses short_output
        | false ↦ elim b [ true ↦ writes (written L t) (length (lines_of L t)) | false ↦ refuses no_table_number ]
      ]

  -- of two lent tables with the same counted entries, both within their buffers or neither, however long these are
  module _ (l k : Lent) (within : within_buffers l ≡ within_buffers k) (entries : counted l ≡ counted k) where
    pub uncounted_test : is_table L levels l ≡ is_table L levels k
    unfolding is_table counted test
    uncounted_test = ap₂ test within entries

    pub uncounted_writing : (output : ℕ) → writing L levels l output ≡ writing L levels k output
    unfolding writing wrote
    uncounted_writing output = ap₂ (λ (b : Bool) (t : Table). wrote b t output) uncounted_test entries
