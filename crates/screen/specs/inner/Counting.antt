-- How the codes of a patient's results are counted: each result's code by its place among the four, over the rows up to the next patient.
-- Assumes nothing.
use Rattle.std.specs.Prelude.{Bool, true, false, List, [], ◌≡◌, ℕ, ◌-◌, ◌≤◌, ◌<◌, eqb, length, get_or}
use Rattle.laws.specs.Lists.{same}
use Rattle.laws.specs.Tables.{passing}
use Rattle.table.specs.Lent.{Lent}
use Rattle.look.specs.Looking.{patient_kind, result_kind}
use Rattle.screen.specs.Rules.{codes}
use Rattle.screen.specs.Meeting.{has_kind, has_code}
use Rattle.screen.specs.inner.Rows.{Report}

-- how many codes there are; and the k-th of them, counted from 0
abbrev pub code_count : ℕ
code_count = 4

abbrev pub code_named : ℕ → List ℕ
code_named k = get_or codes k []

-- which of the codes, counted from 0, a test takes first; 4 where it takes none
abbrev pub first_code : (ℕ → Bool) → ℕ
first_code test = get_or (passing test 0 code_count) 0 code_count

-- which of them a text is, and which one result i has; a row that is no result has none
unfoldable pub code_of : List ℕ → ℕ
code_of text = first_code (λ k. same text (code_named k))

unfoldable pub code_in : Lent → ℕ → ℕ
code_in t i = elim (has_kind t result_kind i) [ true ↦ first_code (λ k. has_code t (code_named k) i) | false ↦ code_count ]

-- the next patient from a row on, counted from 0; the count of rows where there is none
abbrev pub next_patient : Lent → (from : ℕ) → ℕ
next_patient t from = get_or (passing (has_kind t patient_kind) from (t.card.segments - from)) 0 t.card.segments

-- how many rows from one on and before another have the k-th code
abbrev pub count_between : Lent → (k from to : ℕ) → ℕ
count_between t k from to = length (passing (λ i. eqb (code_in t i) k) from (to - from))

-- numbers that count the rows from one on, up to the next patient, by their codes
pub record CodesCounted (t : Lent) (from : ℕ) (counts : List ℕ) : Type 0 where
  pub size : length counts ≡ code_count
  pub each : (k : ℕ) → k < code_count → get_or counts k 0 ≡ count_between t k from (next_patient t from)

-- a row behind which the rest of a report's rows is counted
pub record CountedRows (t : Lent) (from : ℕ) : Type 0 where
  pub report : Report t
  pub within : from ≤ t.card.segments
