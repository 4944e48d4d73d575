-- The three demands (docs/PROMISES.md says them in words), as statements about what the public contracts name: `ReadAs` of the reader,
-- `WroteAs` of the writer, `is_table` of the table test, `sought_in`, `sought_in_segment`, `row_after` and `same_order` of the lookups, `tell_of` of the
-- watcher. Each demand is shown once, of any lawful limits and any levels; the end of the page reads them at both forms. Types from specs.declared are the
-- structs and enums of src/, field by field; names from specs.inner need not be read, since each is fixed by a statement below.
-- Assumes nothing.
use Rattle.std.specs.Prelude.{Bool, true, false, List, [], ◌∷◌, ◌++◌, ◌↔◌, ◌≡◌, ℕ, suc, ◌≤◌, ◌<◌, length}
use Rattle.form.specs.declared.limits.Limits.{Limits}
use Rattle.form.specs.declared.separators.Separators.{Separators}
use Rattle.form.specs.declared.forms.Form.{Form}
use Rattle.form.specs.Forms.{small_form, large_form, limits_of}
use Rattle.form.specs.Numbers.{misplaced_kind, short_output, no_table_number}
use Rattle.line.specs.Lines.{walk, texts}
use Rattle.order.specs.declared.watcher.Watcher.{Watcher}
use Rattle.order.specs.Grammar.{Tree, word, Derives, Begins}
use Rattle.order.specs.Contexts.{grammar}
use Rattle.order.specs.Misplaced.{FirstMisplaced}
use Rattle.order.specs.Owners.{level}
use Rattle.order.specs.Watcher.{begun, watched, said}
use Rattle.order.specs.inner.Telling.{tell_of}
use Rattle.table.specs.Lent.{Lent, lent, counted}
use Rattle.table.specs.Rows.{kinds_of, context_in, RowOf}
use Rattle.table.specs.Reading.{room_of, accepted, reading, stated, short}
use Rattle.read.specs.declared.Answer.{Answer}
use Rattle.read.specs.Answering.{ReadAs, no_card}
use Rattle.read.specs.Acceptance.{Read}
use Rattle.read.specs.Sound.{segments_in, SoundLines, SoundMessage}
use Rattle.write.specs.declared.Written.{Written}
use Rattle.write.specs.Writing.{ReadTo}
use Rattle.write.specs.inner.ReadsBack.{is_table}
use Rattle.write.specs.Answer.{WroteAs}
use Rattle.write.specs.Wrote.{WroteTable}
use Rattle.look.specs.declared.leaf.Place.{Place}
use Rattle.look.specs.declared.leaf.Sought.{Sought}
use Rattle.look.specs.inner.Searching.{sought_in, sought_in_segment, row_after, same_order}
use Rattle.look.specs.Matches.{Finds, FindsInSegment, FindsRow, SameOrders}

-- Demand 1. Every function is proved to end, and no public one asks anything of its caller; what comes back, and every lent buffer, is one
-- function of what went in; a refused call changes no buffer.
pub record Demand1 (L : Limits) (levels : ℕ → ℕ → ℕ) : Type 0 where
  -- the reader has one outcome
  pub one-reading : (message : List ℕ) {text segments leaves text₁ segments₁ leaves₁ text₂ segments₂ leaves₂ : List ℕ} {r s : Answer}
      → ReadAs L levels message text segments leaves r text₁ segments₁ leaves₁
      → ReadAs L levels message text segments leaves s text₂ segments₂ leaves₂
      → (r ≡ s) × (text₁ ≡ text₂) × (segments₁ ≡ segments₂) × (leaves₁ ≡ leaves₂)
  -- refused, it leaves the three buffers as they were, the card is all zero, and the number is 1 to 11
  pub refused-reading : (message : List ℕ) {text segments leaves text' segments' leaves' : List ℕ} {r : Answer}
      → ReadAs L levels message text segments leaves r text' segments' leaves' → (r.number ≡ 0 → ⊥)
      → (text' ≡ text) × (segments' ≡ segments) × (leaves' ≡ leaves) × (r.card ≡ no_card) × (r.number ≤ 11)
  -- the writer has one outcome
  pub one-writing : (table : Lent) {output output₁ output₂ : List ℕ} {r s : Written}
      → WroteAs L levels table output r output₁ → WroteAs L levels table output s output₂ → (r ≡ s) × (output₁ ≡ output₂)
  -- refused, it leaves the output as it was, at the place 0, with no byte and no line counted
  pub refused-writing : (table : Lent) {output output' : List ℕ} {r : Written} → WroteAs L levels table output r output' → (r.number ≡ 0 → ⊥)
      → (output' ≡ output) × (r.place ≡ 0) × (r.bytes ≡ 0) × (r.lines ≡ 0)
  -- the lookups answer for every table, place and row: the first row that fits, or that none does
  pub leaf-found : (table : Lent) (place : Place) (r : Sought) → (r ≡ sought_in table place) ↔ Finds table place r
  pub leaf-found_in_segment : (table : Lent) (place : Place) (r : Sought) → (r ≡ sought_in_segment table place) ↔ FindsInSegment table place r
  pub row-found : (rows : List ℕ) (count after kind owner r : ℕ)
      → (r ≡ row_after rows count after kind owner) ↔ FindsRow rows count after kind owner r
  pub orders-compared : (table : Lent) (row : ℕ) (other : Lent) (other_row : ℕ) (r : Bool) → r ≡ same_order table row other other_row
      → (r ≡ true) ↔ SameOrders table row other other_row

-- Demand 2. What is accepted is filed by the rules; what is written leads back to the table; nothing else makes the writer refuse than an
-- output that is short or a table to which no message leads.
pub record Demand2 (L : Limits) (levels : ℕ → ℕ → ℕ) : Type 0 where
  -- accepted: the header is sound and names the separators by which the message is read
  pub accepted-table : (message : List ℕ) {text segments leaves text' segments' leaves' : List ℕ} {r : Answer}
      → ReadAs L levels message text segments leaves r text' segments' leaves' → r.number ≡ 0
      → (ps : Separators) × Read L levels message ps text segments leaves r text' segments' leaves'
  -- accepted: what the reader leaves in the buffers is a table that some message reads to (W4)
  pub table-left : (message : List ℕ) {text segments leaves text' segments' leaves' : List ℕ} {r : Answer}
      → ReadAs L levels message text segments leaves r text' segments' leaves' → r.number ≡ 0
      → ReadTo L levels (counted (lent r.card segments' leaves' text'))
  -- written: the front of the output reads to the lent table, in lines of at most 220 characters, CR counted
  pub written-table : (table : Lent) {output output' : List ℕ} {r : Written} → WroteAs L levels table output r output' → r.number ≡ 0
      → WroteTable L levels table output r output'
  -- written exactly where the output has room for any message and some message reads to the table; else 12, or 13
  pub written_exactly : (table : Lent) {output output' : List ℕ} {r : Written} → WroteAs L levels table output r output'
      → (r.number ≡ 0) ↔ ((L.bytes ≤ length output) × ReadTo L levels (counted table))
  pub short_exactly : (table : Lent) {output output' : List ℕ} {r : Written} → WroteAs L levels table output r output'
      → (r.number ≡ short_output) ↔ (length output < L.bytes)
  pub none_exactly : (table : Lent) {output output' : List ℕ} {r : Written} → WroteAs L levels table output r output'
      → (r.number ≡ no_table_number) ↔ ((L.bytes ≤ length output) × (ReadTo L levels (counted table) → ⊥))
  -- the table test says yes exactly where some message reads to the table
  pub tested_exactly : (table : Lent) (r : Bool) → r ≡ is_table L levels table → (r ≡ true) ↔ ReadTo L levels (counted table)
  -- of such a table the lookup within a segment answers what the lookup answers
  pub same_answer : (table : Lent) → ReadTo L levels (counted table) → (place : Place) → sought_in_segment table place ≡ sought_in table place
  -- no message that reads to the table has fewer bytes or fewer lines
  pub fewest : (table : Lent) {output output' : List ℕ} {r : Written} → WroteAs L levels table output r output' → r.number ≡ 0
      → (message : List ℕ) → reading L levels (stated L) message ≡ accepted (counted table)
      → (r.bytes ≤ length message) × (r.lines ≤ length (texts (walk L message)))

-- Demand 3. Of messages within the limits whose header and lines are sound, read into buffers of the stated sizes.
pub record Demand3 (L : Limits) (levels : ℕ → ℕ → ℕ) : Type 0 where
  -- accepted exactly where the grammar of the context has a derivation of the joined segments' kinds
  pub accepted_exactly : (message : List ℕ) {text segments leaves text' segments' leaves' : List ℕ} {r : Answer} {ps : Separators}
      → SoundMessage L (room_of text segments leaves) message ps → ReadAs L levels message text segments leaves r text' segments' leaves'
      → (r.number ≡ 0) ↔ Derives (grammar (context_in ps (segments_in L ps message))) (kinds_of ps (segments_in L ps message))
  -- refused with 10 at the first segment that may not stand there, or one past the last
  pub misplaced_at : (message : List ℕ) {text segments leaves text' segments' leaves' : List ℕ} {r : Answer} {ps : Separators}
      → SoundLines L message ps → short L (room_of text segments leaves) ≡ false → ReadAs L levels message text segments leaves r text' segments' leaves'
      → r.number ≡ misplaced_kind
      → (n : ℕ) × (r.place ≡ suc n) × FirstMisplaced (context_in ps (segments_in L ps message)) (kinds_of ps (segments_in L ps message)) n
  -- the derivation is unique
  pub one_derivation : (context : ℕ) (s t : Tree (grammar context)) → word (grammar context) s [] ≡ word (grammar context) t [] → s ≡ t
  -- each row has its segment's kind, owner, first leaf and leaf count
  pub each-owner : (message : List ℕ) {text segments leaves text' segments' leaves' : List ℕ} {r : Answer} {ps : Separators}
      → Read L levels message ps text segments leaves r text' segments' leaves'
      → (i : ℕ) → i < r.card.segments → RowOf levels ps (segments_in L ps message) segments' i
  -- the watcher says yes exactly by the grammar, and a no changes nothing in it
  pub watcher-yes : (context : ℕ) (told : List ℕ) (kind : ℕ)
      → ((tell_of (watched (begun context) told) kind).yes ≡ true) ↔ Begins (grammar context) (said (begun context) told ++ (kind ∷ []))
  pub watcher_no : (w : Watcher) (kind : ℕ) → (tell_of w kind).yes ≡ false → (tell_of w kind).watcher ≡ w
  -- how the lines were cut changes nothing: equal joined segments, equal answers and equal buffers
  pub cut_anyhow : (message other : List ℕ) {text segments leaves text₁ segments₁ leaves₁ text₂ segments₂ leaves₂ : List ℕ} {r s : Answer} {ps qs : Separators}
      → SoundLines L message ps → SoundLines L other qs → segments_in L ps message ≡ segments_in L qs other
      → ReadAs L levels message text segments leaves r text₁ segments₁ leaves₁ → ReadAs L levels other text segments leaves s text₂ segments₂ leaves₂
      → (r ≡ s) × (text₁ ≡ text₂) × (segments₁ ≡ segments₂) × (leaves₁ ≡ leaves₂)

-- The demands of a form (T6, T8), by the levels in force.
pub record OfForm (f : Form) : Type 0 where
  pub first : Demand1 (limits_of f) level
  pub second : Demand2 (limits_of f) level
  pub third : Demand3 (limits_of f) level

-- Both forms: each meets the demands, and what the small one accepts the large one accepts with the same answer and the same table, into whatever
-- buffers of its own sizes.
pub record BothForms : Type 0 where
  pub each : (f : Form) → OfForm f
  pub small_in_large : (message : List ℕ) {text segments leaves text' segments' leaves' : List ℕ} {r : Answer}
      → ReadAs small_form level message text segments leaves r text' segments' leaves' → r.number ≡ 0
      → {text₁ segments₁ leaves₁ text₂ segments₂ leaves₂ : List ℕ} {s : Answer} → short large_form (room_of text₁ segments₁ leaves₁) ≡ false
      → ReadAs large_form level message text₁ segments₁ leaves₁ s text₂ segments₂ leaves₂
      → (s ≡ r) × (counted (lent s.card segments₂ leaves₂ text₂) ≡ counted (lent r.card segments' leaves' text'))
