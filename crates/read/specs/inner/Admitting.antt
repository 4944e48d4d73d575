-- What counting an accepted message asks, and what it gives (X3).
-- Assumes nothing.
use Rattle.std.specs.Prelude.{true, List, ◌≡◌, ℕ, ◌+◌, ◌*◌, ◌≤◌, ◌<◌, length, get_or, take, Result, Ok, Err}
use Rattle.std.proofs.lemmas.List.Edits.{sets}
use Rattle.form.specs.declared.limits.Limits.{Limits}
use Rattle.table.specs.Rows.{Table}
use Rattle.index.specs.declared.tally.Tally.{Tally}
use Rattle.index.specs.Index.{place_size, named_in, entries_in, sound_index, codes_put, counts_put}
use Rattle.index.specs.Adding.{added_all}
use Rattle.index.specs.Tallying.{with_message}
use Rattle.read.specs.declared.refused.Refused.{Refused}
use Rattle.read.specs.declared.decide.Decision.{Decision}
use Rattle.read.specs.declared.indexed.Counted.{Counted}
use Rattle.read.specs.declared.indexed.Indexed.{Indexed}
use Rattle.read.specs.Codes.{codes_counted}
use Rattle.read.specs.Counting.{Counting, turned, counted, counted_or, front_left}
use Rattle.read.specs.inner.Census.{carried_in}
use Rattle.read.specs.inner.Deciding.{Accepts, ReadsWithin, answered}

-- what reading with an index asks beside what reading asks: a place to note where each segment begins, with none beside
pub record IndexesWithin (L : Limits) (levels kinds starts : List ℕ) : Type 0 where
  pub reads : ReadsWithin L levels kinds
  pub begins : length starts ≡ L.segments

-- what counting asks: an accepted message of bytes, and a sound index
pub record Admissible (L : Limits) (class kinds starts : List ℕ) (d : Decision) (message codes counts : List ℕ) : Type 0 where
  pub accepts : Accepts L message class kinds starts d
  pub bytes : (i : ℕ) → get_or message i 0 < 256
  pub room : d.segments ≤ length starts
  pub sound : sound_index codes counts ≡ true

-- what it comes to, of a message that is filed in the table t
abbrev pub admission : Limits → Decision → Tally → (message codes counts : List ℕ) → Table → Counting
admission L d tally message codes counts t =
    counted_or (carried_in L d.separators message) t
    (added_all (codes_counted (carried_in L d.separators message)) (entries_in codes counts))
    (with_message tally d.segments (length (codes_counted (carried_in L d.separators message))))

-- the same as it is answered: the tally with the message, or number and place of a refusal
unfoldable pub admitted : Counting → Result Tally Refused
admitted (turned number place) = Err (record { number = number; place = place })
admitted (counted t entries tally) = Ok tally

-- what it gives, whatever table the message is filed in
pub record AdmitsAs (L : Limits) (d : Decision) (tally : Tally) (message codes counts : List ℕ) (r : Result Tally Refused) (codes' counts' : List ℕ) : Type 0 where
  pub answer : (t : Table) → r ≡ admitted (admission L d tally message codes counts t)
  pub codes_are : (t : Table) → codes' ≡ front_left codes_put codes (admission L d tally message codes counts t)
  pub counts_are : (t : Table) → counts' ≡ front_left counts_put counts (admission L d tally message codes counts t)

-- what copying an index asks: room for the codes that are named, and for their number and counts, in all four buffers
pub record Copyable (codes counts to_codes to_counts : List ℕ) : Type 0 where
  pub codes_there : named_in counts * place_size ≤ length codes
  pub counts_there : named_in counts < length counts
  pub codes_fit : named_in counts * place_size ≤ length to_codes
  pub counts_fit : named_in counts < length to_counts

-- what it gives
pub record IndexCopied (codes counts to_codes to_counts to_codes' to_counts' : List ℕ) : Type 0 where
  pub codes_are : to_codes' ≡ sets to_codes 0 (take (named_in counts * place_size) codes)
  pub counts_are : to_counts' ≡ sets to_counts 0 (take (named_in counts + 1) counts)

-- what comes back of what reading with an index comes to: a card with the tally, or a refusal with the tally as it was
abbrev pub indexed_by : Tally → Result Counted Refused → Indexed
indexed_by tally (Ok c) = record { answer = answered (Ok c.card); tally = c.tally }
indexed_by tally (Err r) = record { answer = answered (Err r); tally = tally }
