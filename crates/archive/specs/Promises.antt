-- What widening promises (rules B1 to B3), as statements about `WidenedAs`, which is what its contract says: over any lawful limits.
-- Assumes nothing.
use Rattle.std.specs.Prelude.{true, false, List, ◌⊎◌, ◌↔◌, ◌≡◌, ℕ, ◌<◌, get_or}
use Rattle.laws.specs.Tables.{values}
use Rattle.form.specs.declared.limits.Limits.{Limits}
use Rattle.form.specs.Numbers.{short_buffer}
use Rattle.order.specs.Owners.{level, former_level, owners}
use Rattle.table.specs.Lent.{Lent, lent, counted}
use Rattle.table.specs.Reading.{room_of, short}
use Rattle.table.specs.Rows.{kind_in, owner_in}
use Rattle.read.specs.declared.Answer.{Answer}
use Rattle.read.specs.Answering.{ReadAs, no_card}
use Rattle.write.specs.Writing.{ReadTo}
use Rattle.archive.specs.Refusals.{never_read}
use Rattle.archive.specs.Widening.{WidenedAs}

-- levels by which a reader went once, or goes now (O1, O4)
abbrev pub Either : (ℕ → ℕ → ℕ) → Type 0
Either levels = (levels ≡ level) ⊎ (levels ≡ former_level)

-- the owner that levels give row i of a lent table, by the kinds in its rows
abbrev pub owner_by : (ℕ → ℕ → ℕ) → Lent → ℕ → ℕ
owner_by levels table i =
    get_or (owners (levels table.card.context) (values (kind_in table.segment_rows) 0 table.card.segments)) i 0

pub record Widens (L : Limits) : Type 0 where
  -- a table that a message was read to, by either levels, is widened to just what reading that message gives now: answer, card and every buffer
  pub reads_now : (levels : ℕ → ℕ → ℕ) → Either levels → (message : List ℕ) {text segments leaves text₁ segments₁ leaves₁ : List ℕ} {r : Answer}
      → ReadAs L levels message text segments leaves r text₁ segments₁ leaves₁ → r.number ≡ 0
      → {newText newSegments newLeaves text₂ segments₂ leaves₂ : List ℕ} {s : Answer}
      → WidenedAs L (lent r.card segments₁ leaves₁ text₁) newText newSegments newLeaves s text₂ segments₂ leaves₂
      → ReadAs L level message newText newSegments newLeaves s text₂ segments₂ leaves₂
  -- widened exactly where no new buffer is short and some reader gave the table; 1 exactly where one is; else 46
  pub widened_exactly : (table : Lent) {text segments leaves text' segments' leaves' : List ℕ} {r : Answer}
      → WidenedAs L table text segments leaves r text' segments' leaves'
      → (r.number ≡ 0) ↔ ((short L (room_of text segments leaves) ≡ false) × (ReadTo L level (counted table) ⊎ ReadTo L former_level (counted table)))
  pub short_exactly : (table : Lent) {text segments leaves text' segments' leaves' : List ℕ} {r : Answer}
      → WidenedAs L table text segments leaves r text' segments' leaves' → (r.number ≡ short_buffer) ↔ (short L (room_of text segments leaves) ≡ true)
  pub never_exactly : (table : Lent) {text segments leaves text' segments' leaves' : List ℕ} {r : Answer}
      → WidenedAs L table text segments leaves r text' segments' leaves'
      → (r.number ≡ never_read)
      ↔ ((short L (room_of text segments leaves) ≡ false) × (ReadTo L level (counted table) → ⊥) × (ReadTo L former_level (counted table) → ⊥))
  -- a refusal changes none of the new buffers; its place is 0, and its card is all zero
  pub refused-widening : (table : Lent) {text segments leaves text' segments' leaves' : List ℕ} {r : Answer}
      → WidenedAs L table text segments leaves r text' segments' leaves' → (r.number ≡ 0 → ⊥)
      → (text' ≡ text) × (segments' ≡ segments) × (leaves' ≡ leaves) × (r.place ≡ 0) × (r.card ≡ no_card)
  -- there is one outcome
  pub one-widening : (table : Lent) {text segments leaves text₁ segments₁ leaves₁ text₂ segments₂ leaves₂ : List ℕ} {r s : Answer}
      → WidenedAs L table text segments leaves r text₁ segments₁ leaves₁ → WidenedAs L table text segments leaves s text₂ segments₂ leaves₂
      → (r ≡ s) × (text₁ ≡ text₂) × (segments₁ ≡ segments₂) × (leaves₁ ≡ leaves₂)
  -- what is widened is a table by the owners in force; and a table that was one already comes out with the same numbers
  pub table_now : (table : Lent) {text segments leaves text' segments' leaves' : List ℕ} {r : Answer}
      → WidenedAs L table text segments leaves r text' segments' leaves' → r.number ≡ 0 → ReadTo L level (counted (lent r.card segments' leaves' text'))
  pub kept-numbers : (table : Lent) {text segments leaves text' segments' leaves' : List ℕ} {r : Answer}
      → WidenedAs L table text segments leaves r text' segments' leaves' → r.number ≡ 0 → ReadTo L level (counted table)
      → counted (lent r.card segments' leaves' text') ≡ counted table
  -- all owners of a table follow one rule or the other: a row that has not the owner in force, and a row that has not the former one, make it 46
  pub one_rule : (table : Lent) {text segments leaves text' segments' leaves' : List ℕ} {r : Answer}
      → WidenedAs L table text segments leaves r text' segments' leaves' → short L (room_of text segments leaves) ≡ false
      → (i j : ℕ) → i < table.card.segments → j < table.card.segments
      → (owner_in table.segment_rows i ≡ owner_by level table i → ⊥) → (owner_in table.segment_rows j ≡ owner_by former_level table j → ⊥)
      → r.number ≡ never_read
