-- The lines of the segment rows, one behind the other.
-- Assumes nothing.
use mathlib.Core.List.{List, [], ◌++◌, append-nil}
use mathlib.Core.Path.{◌≡◌, refl, sym, ap, ◌∙◌}
use Prim.Native.Nat.{ℕ, ◌+◌, ◌*◌}
use native.Mathlib.Omega.{arith}
use Rattle.laws.specs.Lists.{concat}
use Rattle.laws.specs.Tables.{values}
use Rattle.laws.proofs.Sums.{concat-append}
use Rattle.laws.proofs.Tables.{values-append}
use Rattle.listing.specs.Listing.{row_line, row_lines}
use Rattle.listing.specs.declared.put.Pen.{Pen}
use Rattle.listing.specs.inner.Putting.{Wrote}
use Rattle.listing.proofs.Putting.{put_as, put-nothing, wrote_then, wrote_more, wrote_as}

none_yet : (rows : List ℕ) → [] ≡ row_lines rows 0
unfolding row_lines values concat
none_yet rows = refl

one_more : (rows : List ℕ) (i : ℕ) → row_lines rows i ++ row_line rows i ≡ row_lines rows (i + 1)
unfolding row_lines values concat
one_more rows i =
    sym (ap concat (values-append (row_line rows) 0 i 1)
    ∙ concat-append (values (row_line rows) 0 i) (values (row_line rows) (0 + i) 1)
    ∙ ap (λ (s : List ℕ). concat (values (row_line rows) 0 i) ++ s) (append-nil (row_line rows (0 + i)))
    ∙ ap (λ (k : ℕ). concat (values (row_line rows) 0 i) ++ row_line rows k) (let e : 0 + i ≡ i = omega arith in e))

-- the lines of the rows before i stand, at most 32 bytes each
pub record Rows (rows : List ℕ) (pen₀ pen : Pen) (i : ℕ) : Type 0 where
  pub wrote : Wrote (i * 32) pen₀ (row_lines rows i) pen

pub rows_begin : {rows : List ℕ} {pen : Pen} → Rows rows pen pen 0
rows_begin {rows} =
    record {
      wrote =
          record { same_reference = refl; within = record { put = put_as (none_yet rows) put-nothing; few = omega arith } };
    }

pub rows_more : {rows : List ℕ} {pen₀ pen pen' : Pen} {i : ℕ} → Rows rows pen₀ pen i → Wrote 32 pen (row_line rows i) pen'
    → Rows rows pen₀ pen' (i + 1)
rows_more {rows} {i = i} w p = record { wrote = wrote_more (wrote_as (wrote_then w.wrote p) (one_more rows i)) (omega arith) }
