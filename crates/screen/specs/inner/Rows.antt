-- How a report is judged row by row, and what the functions that do so ask.
-- Assumes nothing.
use Rattle.std.specs.Prelude.{Bool, not, List, [], ◌≡◌, ℕ, ◌-◌, ◌≤◌, ◌<◌, length, get_or, Option, slice_get}
use Rattle.laws.specs.Tables.{passing}
use Rattle.table.specs.Lent.{Lent}
use Rattle.table.specs.Rows.{kind_in}
use Rattle.look.specs.Looking.{text_found}
use Rattle.tested.specs.inner.Searchable.{Searchable}
use Rattle.tested.specs.inner.KnownOwners.{KnownOwners}
use Rattle.screen.specs.Refusals.{first_rule}
use Rattle.screen.specs.Rules.{Rule, once, rules}
use Rattle.screen.specs.Meeting.{sought_of, says_letter, fails}
use Rattle.screen.specs.Verdicts.{report_context}

-- the numbers from which on the rules are those of codes, and those of values; and the one past all rules
abbrev pub first_code_rule : ℕ
first_code_rule = 39

abbrev pub first_value_rule : ℕ
first_value_rule = 43

abbrev pub past_rules : ℕ
past_rules = 46

-- the rule with a number
abbrev pub rule_numbered : ℕ → Rule
rule_numbered n = get_or rules (n - first_rule) (once [])

-- whether row i fails it
abbrev pub fails_at : Lent → (i : ℕ) → (number : ℕ) → Bool
fails_at t i n = fails t (rule_numbered n) i

-- the first of the rules with numbers from `from` on and below `end` that row i fails, if any
abbrev pub first_failed : Lent → (i from end : ℕ) → Option ℕ
first_failed t i from end = slice_get (passing (fails_at t i) from (end - from)) 0

-- the text of a leaf of row i by its name (S5)
abbrev pub text_in : Lent → (i field subfield : ℕ) → List ℕ
text_in t i field subfield = text_found t.text (sought_of t i field subfield)

-- whether the value of result i is none of these letters
abbrev pub misses_letter : Lent → (i : ℕ) (letters : List ℕ) → Bool
misses_letter t i letters = not (says_letter t.text letters (sought_of t i 6 1))

-- what is known of a table whose context is that of a report, once it passed the table test
pub record Report (t : Lent) : Type 0 where
  pub table : Searchable t
  pub owned : KnownOwners t
  pub context : t.card.context ≡ report_context

-- row i of such a table
pub record ReportRow (t : Lent) (i : ℕ) : Type 0 where
  pub report : Report t
  pub counts : i < t.card.segments

-- and a text that one of its leaves may have: it has a byte at least
pub record AskedText (t : Lent) (i : ℕ) (wanted : List ℕ) : Type 0 where
  pub row : ReportRow t i
  pub some : 1 ≤ length wanted

-- the row, of a kind
pub record RowOfKind (t : Lent) (i kind : ℕ) : Type 0 where
  pub row : ReportRow t i
  pub of_kind : kind_in t.segment_rows i ≡ kind
