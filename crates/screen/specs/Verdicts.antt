-- The verdict on a report (rules R4 and R5).
-- Assumes nothing.
use Rattle.std.specs.Prelude.{true, false, List, [], ◌∷◌, ℕ, suc, eqb}
use Rattle.laws.specs.Tables.{passing}
use Rattle.form.specs.declared.limits.Limits.{Limits}
use Rattle.form.specs.Numbers.{no_table_number}
use Rattle.table.specs.Lent.{Lent}
use Rattle.write.specs.inner.ReadsBack.{is_table}
use Rattle.screen.specs.declared.Verdict.{Verdict}
use Rattle.screen.specs.Refusals.{not_a_report, first_rule}
use Rattle.screen.specs.Rules.{Rule, rules}
use Rattle.screen.specs.Meeting.{fails}

-- the context of a report, ORU (C1)
abbrev pub report_context : ℕ
report_context = 6

-- yes; and a no without a row
abbrev pub yes : Verdict
yes = record { number = 0; place = 0 }

abbrev pub refused_with : (number : ℕ) → Verdict
refused_with number = record { number = number; place = 0 }

-- the rows that fail a rule, in their order
abbrev pub failing : Lent → Rule → List ℕ
failing t r = passing (fails t r) 0 t.card.segments

-- a no with a rule's number at the first of the rows that fail it, counted from 1; where none does, what is said later
unfoldable pub at_first : (number : ℕ) (rows : List ℕ) (later : Verdict) → Verdict
at_first number [] later = later
at_first number (i ∷ rows) later = record { number = number; place = suc i }

-- the verdict by rules, the first of which has a number: the first rule that some row fails decides
unfoldable pub judged_by : Lent → (number : ℕ) → List Rule → Verdict
judged_by t number [] = yes
judged_by t number (r ∷ rs) = at_first number (failing t r) (judged_by t (suc number) rs)

-- the verdict on a lent table: 13 where no message reads to it (W4), then 30 where it is no ORU, then by the rules
unfoldable pub screened : Limits → (ℕ → ℕ → ℕ) → Lent → Verdict
screened L levels t =
    elim (is_table L levels t) [
      | true ↦ elim (eqb t.card.context report_context) [ true ↦ judged_by t first_rule rules | false ↦ refused_with not_a_report ]
      | false ↦ refused_with no_table_number
    ]
