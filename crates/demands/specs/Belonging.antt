-- Who belongs to whom (rules O1 to O5), as statements about `ReadAs` of the reader and `WroteAs` of the writer: the owners in force, by kind; what is
-- accepted does not depend on levels; by the former levels all else is the same; and a table with other owners is refused.
-- Assumes nothing.
use Rattle.std.specs.Prelude.{false, List, ◌⊎◌, ◌≡◌, ℕ, ◌≤◌, ◌<◌, length, get_or}
use Rattle.laws.specs.Tables.{values}
use Rattle.form.specs.declared.limits.Limits.{Limits}
use Rattle.form.specs.Numbers.{no_table_number}
use Rattle.order.specs.Owners.{level, former_level, owners}
use Rattle.order.specs.OwnerKinds.{owner_kind, moved}
use Rattle.table.specs.Lent.{Lent}
use Rattle.table.specs.Rows.{kind_in, owner_in, first_in, count_in}
use Rattle.table.specs.OwnedRows.{NearestRow}
use Rattle.read.specs.declared.Answer.{Answer}
use Rattle.read.specs.Answering.{ReadAs}
use Rattle.write.specs.declared.Written.{Written}
use Rattle.write.specs.Answer.{WroteAs}

-- of segment rows by the levels in force and by the former ones, row i has the same numbers, but for the owner of a kind that moved
pub record SameButMoved (context : ℕ) (rows formerRows : List ℕ) (i : ℕ) : Type 0 where
  pub kind : kind_in rows i ≡ kind_in formerRows i
  pub owner : moved context (kind_in rows i) ≡ false → owner_in rows i ≡ owner_in formerRows i
  pub first : first_in rows i ≡ first_in formerRows i
  pub count : count_in rows i ≡ count_in formerRows i

pub record Belonging (L : Limits) : Type 0 where
  -- in an accepted ORA an OBR belongs to the nearest P before it
  pub order : (message : List ℕ) {text segments leaves text' segments' leaves' : List ℕ} {r : Answer}
      → ReadAs L level message text segments leaves r text' segments' leaves' → r.number ≡ 0 → r.card.context ≡ 3
      → (i : ℕ) → i < r.card.segments → kind_in segments' i ≡ 5 → NearestRow 2 segments' i
  -- in an accepted FAC a FAC does so, too, and a REG or an ACT belongs to the nearest FAC before it
  pub invoice : (message : List ℕ) {text segments leaves text' segments' leaves' : List ℕ} {r : Answer}
      → ReadAs L level message text segments leaves r text' segments' leaves' → r.number ≡ 0 → r.card.context ≡ 7
      → (i : ℕ) → i < r.card.segments → kind_in segments' i ≡ 7 → NearestRow 2 segments' i
  pub invoice-line : (message : List ℕ) {text segments leaves text' segments' leaves' : List ℕ} {r : Answer}
      → ReadAs L level message text segments leaves r text' segments' leaves' → r.number ≡ 0 → r.card.context ≡ 7
      → (i : ℕ) → i < r.card.segments → (kind_in segments' i ≡ 8) ⊎ (kind_in segments' i ≡ 9) → NearestRow 7 segments' i
  -- in every context each segment belongs to the nearest one of the kind that the table of owners' kinds names; where it names none, the segment is a
  -- C or has no owner
  pub any-kind : (message : List ℕ) {text segments leaves text' segments' leaves' : List ℕ} {r : Answer}
      → ReadAs L level message text segments leaves r text' segments' leaves' → r.number ≡ 0
      → (i : ℕ) → i < r.card.segments → 1 ≤ owner_kind r.card.context (kind_in segments' i)
      → NearestRow (owner_kind r.card.context (kind_in segments' i)) segments' i
  pub unnamed : (message : List ℕ) {text segments leaves text' segments' leaves' : List ℕ} {r : Answer}
      → ReadAs L level message text segments leaves r text' segments' leaves' → r.number ≡ 0
      → (i : ℕ) → i < r.card.segments → owner_kind r.card.context (kind_in segments' i) ≡ 0 → (kind_in segments' i ≡ 12) ⊎ (owner_in segments' i ≡ 0)
  -- what is accepted does not depend on levels: by any two of them the answer, the text area and the leaf rows are the same
  pub accepted_alike : (levels others : ℕ → ℕ → ℕ) (message : List ℕ) {text segments leaves text₁ segments₁ leaves₁ text₂ segments₂ leaves₂ : List ℕ} {r s : Answer}
      → ReadAs L levels message text segments leaves r text₁ segments₁ leaves₁ → ReadAs L others message text segments leaves s text₂ segments₂ leaves₂
      → (r ≡ s) × (text₁ ≡ text₂) × (leaves₁ ≡ leaves₂)
  -- all other owners stay, and so do the other numbers of the segment rows
  pub rows_alike : (message : List ℕ) {text segments leaves text₁ segments₁ leaves₁ text₂ segments₂ leaves₂ : List ℕ} {r s : Answer}
      → ReadAs L level message text segments leaves r text₁ segments₁ leaves₁ → ReadAs L former_level message text segments leaves s text₂ segments₂ leaves₂
      → r.number ≡ 0 → (i : ℕ) → i < r.card.segments → SameButMoved r.card.context segments₁ segments₂ i
  -- a table is refused with 13 where a row has another owner than its kinds give it, or than the nearest row of the kind that is named
  pub other-owner : (table : Lent) {output output' : List ℕ} {r : Written} → WroteAs L level table output r output' → L.bytes ≤ length output
      → (i : ℕ) → i < table.card.segments
      → (owner_in table.segment_rows i ≡ get_or (owners (level table.card.context) (values (kind_in table.segment_rows) 0 table.card.segments)) i 0 → ⊥)
      → r.number ≡ no_table_number
  pub not_nearest : (table : Lent) {output output' : List ℕ} {r : Written} → WroteAs L level table output r output' → L.bytes ≤ length output
      → (i : ℕ) → i < table.card.segments → 1 ≤ owner_kind table.card.context (kind_in table.segment_rows i)
      → (NearestRow (owner_kind table.card.context (kind_in table.segment_rows i)) table.segment_rows i → ⊥) → r.number ≡ no_table_number
