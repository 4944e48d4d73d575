-- `screen::screen` meets its contract: the table test, the context, and then the rules.
-- Assumes nothing.
use mathlib.Core.Bool.{true}
use mathlib.Core.Path.{◌≡◌, sym, ◌∙◌}
use native.Mathlib.Omega.{arith}
use Rattle.form.specs.declared.forms.Form.{Form}
use Rattle.form.specs.Forms.{limits_of}
use Rattle.form.proofs.TwoForms.{form_lawful}
use Rattle.order.specs.Owners.{level}
use Rattle.table.specs.Lent.{Lent, lent}
use Rattle.table.proofs.Width.{form_fits}
use Rattle.write.specs.inner.ReadsBack.{is_table}
use Rattle.screen.proofs.Screened.{no_table, no_report, by_rules, report_here}
use Rattle.screen.proofs.screen.Goals as goal
use Rattle.screen.proofs.screen.Goals.{After-is_table, Else-not-is_table}

-- the form and the table that is lent, from where it has been tested
abbrev form_here : After-is_table → Form
form_here c = c.args.form

abbrev lent_here : After-is_table → Lent
lent_here c = lent c.args.card c.args.segments.now c.args.leaves.now c.args.text.now

-- some message reads to it
table_here : (c : Else-not-is_table) → is_table (limits_of (form_here (goal.at.Else-not-is_table c).After-is_table)) level (lent_here (goal.at.Else-not-is_table c).After-is_table) ≡ true
table_here c = sym c.is_table.ensures ∙ c.if-not-is_table.false

pub returns-then-not-is_table : goal.returns-then-not-is_table
returns-then-not-is_table c =
    c.refused.ensures
    ∙ sym (no_table (limits_of (form_here (goal.at.returns-then-not-is_table c).After-is_table)) level (lent_here (goal.at.returns-then-not-is_table c).After-is_table) (sym c.is_table.ensures ∙ c.if-not-is_table.true))

pub returns-then-card-ne-ORU : goal.returns-then-card-ne-ORU
returns-then-card-ne-ORU c = c.refused-then-card-ne-ORU.ensures ∙ sym (no_report (limits_of (form_here (goal.at.returns-then-card-ne-ORU c).After-is_table)) level (lent_here (goal.at.returns-then-card-ne-ORU c).After-is_table) (table_here (goal.at.returns-then-card-ne-ORU c).Else-not-is_table) c.if-card-ne-ORU.true)

pub judge-requires : goal.judge-requires
judge-requires c =
    let f = form_here (goal.at.judge-requires c).After-is_table in
    report_here (limits_of f) (form_lawful f) (lent_here (goal.at.judge-requires c).After-is_table) (table_here (goal.at.judge-requires c).Else-not-is_table) (omega (arith, (form_fits f).segments)) c.if-card-ne-ORU.false

pub returns-else-card-ne-ORU : goal.returns-else-card-ne-ORU
returns-else-card-ne-ORU c = c.judge.ensures ∙ sym (by_rules (limits_of (form_here (goal.at.returns-else-card-ne-ORU c).After-is_table)) level (lent_here (goal.at.returns-else-card-ne-ORU c).After-is_table) (table_here (goal.at.returns-else-card-ne-ORU c).Else-not-is_table) c.if-card-ne-ORU.false)
