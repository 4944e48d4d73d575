-- Reading with an index (X2 to X5): what comes of it, and what it leaves in the buffers, the index and the tally.
-- Assumes nothing.
use Rattle.std.specs.Prelude.{true, false, ◌||◌, List, ◌≡◌, ℕ, eqb, length}
use Rattle.std.proofs.lemmas.List.Edits.{sets}
use Rattle.form.specs.declared.limits.Limits.{Limits}
use Rattle.table.specs.Rows.{Table}
use Rattle.table.specs.Reading.{Room, room_of, Outcome, refused, accepted, reading}
use Rattle.index.specs.declared.tally.Tally.{Tally}
use Rattle.index.specs.Refusals.{long_code, full_index, full_count, no_index_number}
use Rattle.index.specs.Index.{Entry, entries_in, sound_index, codes_put, counts_put}
use Rattle.index.specs.Adding.{added_all, too_many, too_large}
use Rattle.index.specs.Tallying.{with_message, tally_too_large}
use Rattle.read.specs.declared.indexed.Indexed.{Indexed}
use Rattle.read.specs.Answering.{Gives}
use Rattle.read.specs.Codes.{codes_in, codes_counted, first_long}

-- what a reading is lent beside its three buffers: the index, in two buffers, and the tally
pub record Ledger : Type 0 where
  pub codes : List ℕ
  pub counts : List ℕ
  pub tally : Tally

-- what comes of it: a refusal; or the table, the index with the message's codes, and the tally with the message
pub data Counting : Type 0 where
  turned : (number place : ℕ) → Counting
  counted : Table → List Entry → Tally → Counting

-- tests 50 to 52 (X3) on the entries and the tally that a message with these codes would give: by number, each on the whole message
unfoldable pub counted_or : List (List ℕ) → Table → List Entry → Tally → Counting
counted_or codes t entries tally =
    elim (eqb (first_long codes) 0) [
      | true ↦
          elim (too_many entries) [
            | true ↦ turned full_index 0
            | false ↦ elim (too_large entries || tally_too_large tally) [ true ↦ turned full_count 0 | false ↦ counted t entries tally ]
          ]
      | false ↦ turned long_code (first_long codes)
    ]

-- a message that the reader has judged: its refusal stands; accepted, its codes are added to the index and the message to the tally
unfoldable pub counting_of : List (List ℕ) → Ledger → Outcome → Counting
counting_of codes l (refused number place) = turned number place
counting_of codes l (accepted t) =
    counted_or codes t (added_all (codes_counted codes) (entries_in l.codes l.counts))
    (with_message l.tally t.card.segments (length (codes_counted codes)))

-- all tests in their turn: of the index (53), the reader's own (N2), and those of what is counted
unfoldable pub counting : Limits → (ℕ → ℕ → ℕ) → Room → Ledger → List ℕ → Counting
counting L levels room l message =
    elim (sound_index l.codes l.counts) [
      | true ↦ counting_of (codes_in L message) l (reading L levels room message)
      | false ↦ turned no_index_number 0
    ]

-- the same as an outcome of reading; the tally that is left; and what is left in a buffer of the index, whose front the entries fill
unfoldable pub as_outcome : Counting → Outcome
as_outcome (turned number place) = refused number place
as_outcome (counted t entries tally) = accepted t

unfoldable pub tally_left : Tally → Counting → Tally
tally_left before (turned number place) = before
tally_left before (counted t entries tally) = tally

unfoldable pub front_left : (List Entry → List ℕ) → List ℕ → Counting → List ℕ
front_left put buffer (turned number place) = buffer
front_left put buffer (counted t entries tally) = sets buffer 0 (put entries)

-- what comes of it, answered and put into the buffers: what stands past the named entries is as it was
pub record Leaves (o : Counting) (tally : Tally) (text segments leaves codes counts : List ℕ) (r : Indexed)
    (text' segments' leaves' codes' counts' : List ℕ) : Type 0 where
  pub given : Gives (as_outcome o) text segments leaves r.answer text' segments' leaves'
  pub tally_is : r.tally ≡ tally_left tally o
  pub codes_are : codes' ≡ front_left codes_put codes o
  pub counts_are : counts' ≡ front_left counts_put counts o

-- the contract of reading with an index
abbrev pub IndexedAs :
    Limits → (ℕ → ℕ → ℕ) → Tally → (message text segments leaves codes counts : List ℕ) → Indexed
    → (text' segments' leaves' codes' counts' : List ℕ) → Type 0
IndexedAs L levels tally message text segments leaves codes counts r text' segments' leaves' codes' counts' =
    Leaves (counting L levels (room_of text segments leaves) (record { codes = codes; counts = counts; tally = tally }) message)
    tally text segments leaves codes counts r text' segments' leaves' codes' counts'
