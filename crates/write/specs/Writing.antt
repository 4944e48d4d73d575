-- Writing a table (rules W1 to W4, N1, N2): which tables some message reads to, and what is written for them.
-- Assumes nothing.
use Rattle.std.specs.Prelude.{true, false, List, ◌≡◌, ℕ, ltb, length}
use Rattle.form.specs.declared.limits.Limits.{Limits}
use Rattle.form.specs.Numbers.{short_output, no_table_number}
use Rattle.table.specs.Rows.{Table}
use Rattle.table.specs.Reading.{accepted, stated, reading}
use Rattle.table.specs.inner.Back.{lines_of, written}
use Rattle.write.specs.inner.ReadsBack.{is_table}
use Rattle.table.specs.Lent.{Lent, counted}

-- some message, read within the limits, gives this very table (W4)
abbrev pub ReadTo : Limits → (ℕ → ℕ → ℕ) → Table → Type 0
ReadTo L levels t = (message : List ℕ) × (reading L levels (stated L) message ≡ accepted t)

-- the outcome of writing into an output of a given length: refused with a number at the place 0 (N1), or the message and its lines (W3)
pub data Writing : Type 0 where
  refuses : (number : ℕ) → Writing
  writes : (bytes : List ℕ) (lines : ℕ) → Writing

-- the output is tested first, for 12, and then the table, for 13 (N2)
unfoldable pub writing : Limits → (ℕ → ℕ → ℕ) → Lent → ℕ → Writing
writing L levels l output =
    elim (ltb output L.bytes) [
      | true ↦ refuses short_output
      | false ↦
          elim (is_table L levels l) [
            | true ↦ writes (written L (counted l)) (length (lines_of L (counted l)))
            | false ↦ refuses no_table_number
          ]
    ]
