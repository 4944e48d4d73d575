-- The tests of a verdict in their order (R5), and what is known once a table passed the first two.
-- Assumes nothing.
use mathlib.Core.Bool.{true, false}
use mathlib.Core.Path.{◌≡◌}
use Prim.Native.Nat.{ℕ, ◌<◌}
use borrow.Author.Tests.{eq-eqb, ne_eqb}
use Rattle.form.specs.declared.limits.Limits.{Limits}
use Rattle.form.specs.Limits.{Lawful}
use Rattle.form.specs.Numbers.{no_table_number}
use Rattle.order.specs.Owners.{level}
use Rattle.table.specs.Lent.{Lent}
use Rattle.table.specs.Rows.{width}
use Rattle.write.specs.inner.ReadsBack.{is_table}
use Rattle.tested.proofs.PassedTables.{searchable, known-owners}
use Rattle.screen.specs.Refusals.{not_a_report, first_rule}
use Rattle.screen.specs.Rules.{rules}
use Rattle.screen.specs.Verdicts.{report_context, refused_with, judged_by, screened}
use Rattle.screen.specs.inner.Rows.{Report}

module _ (L : Limits) (levels : ℕ → ℕ → ℕ) (t : Lent) where
  pub no_table : is_table L levels t ≡ false → screened L levels t ≡ refused_with no_table_number
  unfolding screened
  no_table e = rw (e, screened)

  module _ (table : is_table L levels t ≡ true) where
    pub no_report : (t.card.context ≡ report_context → ⊥) → screened L levels t ≡ refused_with not_a_report
    unfolding screened
    no_report n = rw (table, ne_eqb t.card.context report_context n, screened)

    pub by_rules : t.card.context ≡ report_context → screened L levels t ≡ judged_by t first_rule rules
    unfolding screened
    by_rules e = rw (table, eq-eqb t.card.context report_context e, screened)

-- a table that passed both
pub report_here : (L : Limits) → Lawful L → (t : Lent) → is_table L level t ≡ true → L.segments < width → t.card.context ≡ report_context → Report t
report_here L lawful t table few e =
    record { table = searchable L lawful level t table few; owned = known-owners L lawful t table; context = e }
