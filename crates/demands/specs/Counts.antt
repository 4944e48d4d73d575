-- The index by analysis code (X1 to X5), as statements about `IndexedAs`, the contract of reading with an index: of one reading from any index and any
-- tally, of the same message cut otherwise, and of a history of readings, each of them lent what the last one left.
-- Assumes nothing.
use Rattle.std.specs.Prelude.{true, false, ◌||◌, List, [], ◌∷◌, ◌↔◌, ◌⊎◌, ◌≡◌, ℕ, suc, ◌+◌, ◌*◌, ◌≤◌, ◌<◌, eqb, length, get_or}
use Rattle.laws.specs.Lists.{same, count, sum_of}
use Rattle.laws.specs.Tables.{values}
use Rattle.form.specs.declared.limits.Limits.{Limits}
use Rattle.form.specs.declared.forms.Form.{Form}
use Rattle.form.specs.declared.separators.Separators.{Separators}
use Rattle.form.specs.declared.separators.Header.TheVariants.{Sound, Broken}
use Rattle.form.specs.Forms.{limits_of}
use Rattle.form.specs.Header.{header_of}
use Rattle.order.specs.Owners.{level}
use Rattle.table.specs.Lent.{Lent, lent}
use Rattle.table.specs.Rows.{Table, kind_in}
use Rattle.table.specs.Reading.{room_of, accepted, reading}
use Rattle.index.specs.declared.tally.Tally.{Tally}
use Rattle.index.specs.Refusals.{long_code, full_index, full_count, no_index_number}
use Rattle.index.specs.Order.{comes_before}
use Rattle.index.specs.Index.{Entry, codes_most, code_most, place_size, counts_past, length_of, entry_code, named_in, entry_at, entries_in, roomy, rises, sound_index, names, count_of}
use Rattle.index.specs.Adding.{added_all, too_many, too_large}
use Rattle.index.specs.Tallying.{with_message, tally_too_large}
use Rattle.read.specs.declared.indexed.Indexed.{Indexed}
use Rattle.read.specs.Answering.{ReadAs, no_card}
use Rattle.read.specs.Sound.{segments_in, SoundLines}
use Rattle.read.specs.Codes.{counted_kind, leaf_code, codes_in, codes_counted, first_long}
use Rattle.read.specs.Counting.{IndexedAs}
use Rattle.look.specs.Looking.{leaf_named, text_found}
use Rattle.look.specs.inner.Searching.{sought_in}

-- of a message: how many segments it has, how many of its OBX have a code, and how many of these carry the code c
unfoldable pub segment_count : Limits → List ℕ → ℕ
segment_count L message = elim (header_of message) [ Sound ps ↦ length (segments_in L ps message) | Broken ↦ 0 ]

abbrev pub result_count : Limits → List ℕ → ℕ
result_count L message = length (codes_counted (codes_in L message))

abbrev pub results_with : Limits → List ℕ → List ℕ → ℕ
results_with L message c = count (λ (d : List ℕ). same d c) (codes_counted (codes_in L message))

-- the entries and the tally that a message would give
abbrev pub entries_with : Limits → (message codes counts : List ℕ) → List Entry
entries_with L message codes counts = added_all (codes_counted (codes_in L message)) (entries_in codes counts)

abbrev pub tally_with : Limits → List ℕ → Tally → Tally
tally_with L message tally = with_message tally (segment_count L message) (result_count L message)

-- what such entries are: codes of 1 to 22 bytes in rising byte order, just those that the index names or a row carries, each with its count; and one
-- of the counts is too large where for some code the rows counted and those of the message are
pub record GivesEntries (L : Limits) (message codes counts : List ℕ) : Type 0 where
  pub rising : rises (entries_with L message codes counts) ≡ true
  pub named : (c : List ℕ)
      → (names (entries_with L message codes counts) c ≡ true) ↔ ((names (entries_in codes counts) c ≡ true) ⊎ (1 ≤ results_with L message c))
  pub counted : (c : List ℕ) → count_of (entries_with L message codes counts) c ≡ count_of (entries_in codes counts) c + results_with L message c
  pub large : (too_large (entries_with L message codes counts) ≡ true)
      ↔ ((c : List ℕ) × (counts_past ≤ count_of (entries_in codes counts) c + results_with L message c))

-- what an index is: room for 512 codes, no more of them named, each of 1 to 22 bytes, and each before the next in byte order
pub record IsIndex (codes counts : List ℕ) : Type 0 where
  pub codes_room : codes_most * place_size ≤ length codes
  pub counts_room : suc codes_most ≤ length counts
  pub few_named : named_in counts ≤ codes_most
  pub lengths : (i : ℕ) → i < named_in counts → (1 ≤ length_of (entry_at codes counts i)) × (length_of (entry_at codes counts i) ≤ code_most)
  pub rising : (i : ℕ) → suc i < named_in counts → comes_before (entry_code (entry_at codes counts i)) (entry_code (entry_at codes counts (suc i))) ≡ true

-- what the tests 50 to 52 come behind: what is lent is an index, and the plain reader accepts the message
pub record Eligible (L : Limits) (levels : ℕ → ℕ → ℕ) (message text segments leaves codes counts : List ℕ) : Type 0 where
  pub sound : sound_index codes counts ≡ true
  pub table : Table
  pub reads : reading L levels (room_of text segments leaves) message ≡ accepted table

-- a message added to any index and any tally: what is named and counted then, and that all else in the two buffers stays
pub record AddsMessage (L : Limits) (message : List ℕ) (tally : Tally) (codes counts : List ℕ) (tally' : Tally) (codes' counts' : List ℕ) : Type 0 where
  pub counted : (c : List ℕ) → count_of (entries_in codes' counts') c ≡ count_of (entries_in codes counts) c + results_with L message c
  pub named : (c : List ℕ)
      → (names (entries_in codes' counts') c ≡ true) ↔ ((names (entries_in codes counts) c ≡ true) ⊎ (1 ≤ results_with L message c))
  pub tallied : tally' ≡ tally_with L message tally
  pub sound : sound_index codes' counts' ≡ true
  pub codes_behind : (i : ℕ) → named_in counts' * place_size ≤ i → get_or codes' i 0 ≡ get_or codes i 0
  pub counts_behind : (i : ℕ) → named_in counts' < i → get_or counts' i 0 ≡ get_or counts i 0
  pub codes_long : length codes' ≡ length codes
  pub counts_long : length counts' ≡ length counts

-- Reading with an index, by any limits and any levels.
pub record Counts (L : Limits) (levels : ℕ → ℕ → ℕ) : Type 0 where
  -- reading with an index has one outcome: the answer, the tally and five buffers
  pub one_outcome : (message : List ℕ) {tally : Tally} {text segments leaves codes counts : List ℕ}
      {r s : Indexed} {text₁ segments₁ leaves₁ codes₁ counts₁ text₂ segments₂ leaves₂ codes₂ counts₂ : List ℕ}
      → IndexedAs L levels tally message text segments leaves codes counts r text₁ segments₁ leaves₁ codes₁ counts₁
      → IndexedAs L levels tally message text segments leaves codes counts s text₂ segments₂ leaves₂ codes₂ counts₂
      → (r ≡ s) × (text₁ ≡ text₂) × (segments₁ ≡ segments₂) × (leaves₁ ≡ leaves₂) × (codes₁ ≡ codes₂) × (counts₁ ≡ counts₂)
  -- refused, it leaves the tally and the five buffers as they were, and the card is all zero
  pub refused_unchanged : (message : List ℕ) {tally : Tally} {text segments leaves codes counts text' segments' leaves' codes' counts' : List ℕ} {r : Indexed}
      → IndexedAs L levels tally message text segments leaves codes counts r text' segments' leaves' codes' counts' → (r.answer.number ≡ 0 → ⊥)
      → (text' ≡ text) × (segments' ≡ segments) × (leaves' ≡ leaves) × (codes' ≡ codes) × (counts' ≡ counts)
      × (r.tally ≡ tally) × (r.answer.card ≡ no_card)
  -- without 50 to 53 the answer and the table are those of the plain reader
  pub plain : (message : List ℕ) {tally : Tally} {text segments leaves codes counts text' segments' leaves' codes' counts' : List ℕ} {r : Indexed}
      → IndexedAs L levels tally message text segments leaves codes counts r text' segments' leaves' codes' counts'
      → (r.answer.number ≡ long_code → ⊥) → (r.answer.number ≡ full_index → ⊥) → (r.answer.number ≡ full_count → ⊥) → (r.answer.number ≡ no_index_number → ⊥)
      → ReadAs L levels message text segments leaves r.answer text' segments' leaves'
  -- the test of an index says yes exactly where it is one
  pub index_means : (codes counts : List ℕ) → (sound_index codes counts ≡ true) ↔ IsIndex codes counts
  -- 53 exactly where what is lent is no index, whatever the message
  pub no_index : (message : List ℕ) {tally : Tally} {text segments leaves codes counts text' segments' leaves' codes' counts' : List ℕ} {r : Indexed}
      → IndexedAs L levels tally message text segments leaves codes counts r text' segments' leaves' codes' counts'
      → (r.answer.number ≡ no_index_number) ↔ (sound_index codes counts ≡ false)
  -- 50 exactly where a code is too long
  pub long-code : (message : List ℕ) {tally : Tally} {text segments leaves codes counts text' segments' leaves' codes' counts' : List ℕ} {r : Indexed}
      → IndexedAs L levels tally message text segments leaves codes counts r text' segments' leaves' codes' counts'
      → (r.answer.number ≡ long_code) ↔ (Eligible L levels message text segments leaves codes counts × (first_long (codes_in L message) ≡ 0 → ⊥))
  -- 51 exactly where none is, and the codes are more than there are places
  pub full_index_lem : (message : List ℕ) {tally : Tally} {text segments leaves codes counts text' segments' leaves' codes' counts' : List ℕ} {r : Indexed}
      → IndexedAs L levels tally message text segments leaves codes counts r text' segments' leaves' codes' counts'
      → (r.answer.number ≡ full_index)
      ↔ (Eligible L levels message text segments leaves codes counts × (first_long (codes_in L message) ≡ 0) × (too_many (entries_with L message codes counts) ≡ true))
  -- 52 exactly where neither is so, and a count or a number of the tally is too large
  pub full_count_lem : (message : List ℕ) {tally : Tally} {text segments leaves codes counts text' segments' leaves' codes' counts' : List ℕ} {r : Indexed}
      → IndexedAs L levels tally message text segments leaves codes counts r text' segments' leaves' codes' counts'
      → (r.answer.number ≡ full_count)
      ↔ (Eligible L levels message text segments leaves codes counts × (first_long (codes_in L message) ≡ 0) × (too_many (entries_with L message codes counts) ≡ false)
      × ((too_large (entries_with L message codes counts) || tally_too_large (tally_with L message tally)) ≡ true))
  -- accepted exactly where none of the four holds
  pub counted_exactly : (message : List ℕ) {tally : Tally} {text segments leaves codes counts text' segments' leaves' codes' counts' : List ℕ} {r : Indexed}
      → IndexedAs L levels tally message text segments leaves codes counts r text' segments' leaves' codes' counts'
      → (r.answer.number ≡ 0)
      ↔ (Eligible L levels message text segments leaves codes counts × (first_long (codes_in L message) ≡ 0) × (too_many (entries_with L message codes counts) ≡ false)
      × ((too_large (entries_with L message codes counts) || tally_too_large (tally_with L message tally)) ≡ false))
  -- the entries that 51 and 52 look at, where no code is too long
  pub entries-given : (message : List ℕ) {codes counts : List ℕ} → sound_index codes counts ≡ true → first_long (codes_in L message) ≡ 0
      → GivesEntries L message codes counts
  -- 50 is at the first row whose code is too long, the other three at the place 0
  pub places : (message : List ℕ) {tally : Tally} {text segments leaves codes counts text' segments' leaves' codes' counts' : List ℕ} {r : Indexed}
      → IndexedAs L levels tally message text segments leaves codes counts r text' segments' leaves' codes' counts'
      → (r.answer.number ≡ long_code → r.answer.place ≡ first_long (codes_in L message))
      × (r.answer.number ≡ full_index → r.answer.place ≡ 0) × (r.answer.number ≡ full_count → r.answer.place ≡ 0)
      × (r.answer.number ≡ no_index_number → r.answer.place ≡ 0)
  -- a message that the plain reader accepts is refused exactly where one of the four holds
  pub refused_exactly : (message : List ℕ) {tally : Tally} {text segments leaves codes counts text' segments' leaves' codes' counts' : List ℕ} {r : Indexed} {t : Table}
      → reading L levels (room_of text segments leaves) message ≡ accepted t
      → IndexedAs L levels tally message text segments leaves codes counts r text' segments' leaves' codes' counts'
      → (r.answer.number ≡ 0 → ⊥)
      ↔ ((sound_index codes counts ≡ false) ⊎ ((first_long (codes_in L message) ≡ 0 → ⊥) ⊎ ((too_many (entries_with L message codes counts) ≡ true)
      ⊎ ((too_large (entries_with L message codes counts) || tally_too_large (tally_with L message tally)) ≡ true))))
  -- accepted, its rows are added to what the index counted, and the message to the tally
  pub adds : (message : List ℕ) {tally : Tally} {text segments leaves codes counts text' segments' leaves' codes' counts' : List ℕ} {r : Indexed}
      → IndexedAs L levels tally message text segments leaves codes counts r text' segments' leaves' codes' counts' → r.answer.number ≡ 0
      → AddsMessage L message tally codes counts r.tally codes' counts'
  -- how the lines were cut changes nothing: equal joined segments, equal answers, tallies and buffers
  pub cut_anyhow : (message other : List ℕ) {tally : Tally} {text segments leaves codes counts : List ℕ} {ps qs : Separators}
      {r s : Indexed} {text₁ segments₁ leaves₁ codes₁ counts₁ text₂ segments₂ leaves₂ codes₂ counts₂ : List ℕ}
      → SoundLines L message ps → SoundLines L other qs → segments_in L ps message ≡ segments_in L qs other
      → IndexedAs L levels tally message text segments leaves codes counts r text₁ segments₁ leaves₁ codes₁ counts₁
      → IndexedAs L levels tally other text segments leaves codes counts s text₂ segments₂ leaves₂ codes₂ counts₂
      → (r ≡ s) × (text₁ ≡ text₂) × (segments₁ ≡ segments₂) × (leaves₁ ≡ leaves₂) × (codes₁ ≡ codes₂) × (counts₁ ≡ counts₂)

-- the text that the leaf lookup (F1) finds at 10.4.1 of row i of a lent table, counted from 0; and the code of that row by lookups alone: none, where it is no OBX
abbrev pub code_sought : Lent → ℕ → List ℕ
code_sought t i = text_found t.text (sought_in t (leaf_named (suc i) 4 1))

unfoldable pub code_in_row : Lent → ℕ → List ℕ
code_in_row t i = elim (eqb (kind_in t.segment_rows i) counted_kind) [ true ↦ code_sought t i | false ↦ [] ]

-- What is counted is what the leaf lookup finds (X2, F1), in the table that the reading leaves.
pub record LooksUpCodes (L : Limits) (levels : ℕ → ℕ → ℕ) : Type 0 where
  -- at 10.4.1 of row i, counted from 0, it finds the text that is the segment's code, where it is an OBX; past the last row both are no text
  pub each_row : (message : List ℕ) {tally : Tally} {text segments leaves codes counts text' segments' leaves' codes' counts' : List ℕ} {r : Indexed}
      → IndexedAs L levels tally message text segments leaves codes counts r text' segments' leaves' codes' counts' → r.answer.number ≡ 0
      → (ps : Separators) → header_of message ≡ Sound ps → (i : ℕ)
      → text_found text' (sought_in (lent r.answer.card segments' leaves' text') (leaf_named (suc i) 4 1))
      ≡ leaf_code ps (get_or (segments_in L ps message) i [])
  -- so the codes of the message are, row by row, what it finds where the row is an OBX
  pub all-rows : (message : List ℕ) {tally : Tally} {text segments leaves codes counts text' segments' leaves' codes' counts' : List ℕ} {r : Indexed}
      → IndexedAs L levels tally message text segments leaves codes counts r text' segments' leaves' codes' counts' → r.answer.number ≡ 0
      → codes_in L message ≡ values (code_in_row (lent r.answer.card segments' leaves' text')) 0 (segment_count L message)

-- a message that was added, and the limits it was read by
pub record AddedMessage : Type 0 where
  pub limits : Limits
  pub message : List ℕ

-- what an index and a tally may have come from: an index that names no codes and a tally of zeros; or a reading that was lent what a history left, whose
-- message is added or, where it is refused, is not. The messages added stand with the last one first, and one that was added twice stands there twice.
pub data History (levels : ℕ → ℕ → ℕ) : (codes counts : List ℕ) → Tally → List AddedMessage → Type 0 where
  made : {codes counts : List ℕ} → roomy codes counts ≡ true → named_in counts ≡ 0
      → History levels codes counts (record { messages = 0; segments = 0; results = 0 }) []
  adding : (L : Limits) (message : List ℕ) {added : List AddedMessage} {tally : Tally}
      {text segments leaves codes counts text' segments' leaves' codes' counts' : List ℕ} {r : Indexed}
      → History levels codes counts tally added
      → IndexedAs L levels tally message text segments leaves codes counts r text' segments' leaves' codes' counts' → r.answer.number ≡ 0
      → History levels codes' counts' r.tally (record { limits = L; message = message } ∷ added)
  refusing : (L : Limits) (message : List ℕ) {added : List AddedMessage} {tally : Tally}
      {text segments leaves codes counts text' segments' leaves' codes' counts' : List ℕ} {r : Indexed}
      → History levels codes counts tally added
      → IndexedAs L levels tally message text segments leaves codes counts r text' segments' leaves' codes' counts' → (r.answer.number ≡ 0 → ⊥)
      → History levels codes' counts' r.tally added

-- what an index and a tally hold of the messages added, and of nothing else: each code's rows, the codes that have one, the messages, their segments and
-- the rows that were counted
pub record HoldsHistory (codes counts : List ℕ) (tally : Tally) (added : List AddedMessage) : Type 0 where
  pub sound : sound_index codes counts ≡ true
  pub counted : (c : List ℕ) → count_of (entries_in codes counts) c ≡ sum_of (λ (a : AddedMessage). results_with a.limits a.message c) added
  pub named : (c : List ℕ)
      → (names (entries_in codes counts) c ≡ true) ↔ (1 ≤ sum_of (λ (a : AddedMessage). results_with a.limits a.message c) added)
  pub messages : tally.messages ≡ length added
  pub segments : tally.segments ≡ sum_of (λ (a : AddedMessage). segment_count a.limits a.message) added
  pub results : tally.results ≡ sum_of (λ (a : AddedMessage). result_count a.limits a.message) added

-- every history is held
abbrev pub Histories : (ℕ → ℕ → ℕ) → Type 0
Histories levels = (codes counts : List ℕ) (tally : Tally) (added : List AddedMessage) → History levels codes counts tally added
    → HoldsHistory codes counts tally added

-- The index in both forms (T6, T8), by the levels in force: of each reading, and of a history whose readings may be of either form.
pub record CountsOfForms : Type 0 where
  pub each : (f : Form) → Counts (limits_of f) level
  pub looked_up : (f : Form) → LooksUpCodes (limits_of f) level
  pub histories : Histories level
