-- `screen::fields::first_unfilled` meets its contract. The loop's invariant: the rules of the fields so far are kept.
-- Assumes nothing.
use mathlib.Core.Path.{sym, ap, ◌∙◌}
use native.Mathlib.Omega.{arith}
use borrow.Author.Tests.{eqb-true, eqb-false}
use lib.ListN.{length}
use Rattle.table.specs.Lent.{Lent, lent}
use Rattle.screen.specs.Rules.{wanted_fields}
use Rattle.tested.proofs.NamedLeaves.{row_inside}
use Rattle.screen.proofs.LeafTexts.{some_byte, no_byte}
use Rattle.screen.proofs.RuleNumbers.{field_named, other-kind, field_filled, field_unfilled, field_on, field_found, fields-done}
use Rattle.screen.proofs.fields.first_unfilled.Goals as goal
use Rattle.screen.proofs.fields.first_unfilled.Goals.{Start, else-asked-kind-via-then-asked-kind+else-is_empty, else-asked-kind-via-else-asked-kind}

abbrev lent_here : Start → Lent
lent_here c = lent c.args.card c.args.segments.now c.args.leaves.now c.args.text.now

pub bounds-segments-row : goal.bounds-segments-row
bounds-segments-row c = omega (arith, row_inside (lent_here (goal.at.bounds-segments-row c).Start) c.requires.report.table c.args.row c.requires.counts)

pub returns-then-is_empty : goal.returns-then-is_empty
unfolding wanted_fields
returns-then-is_empty c =
    let field_at = field_named c.loop-rule.rule in
    field_found (lent_here (goal.at.returns-then-is_empty c).Start) c.args.row c.loop-rule.invariant c.loop-rule-test.true
    (field_unfilled (lent_here (goal.at.returns-then-is_empty c).Start) c.args.row c.loop-rule.rule c.loop-rule-test.true c.if-asked-kind.true
    (no_byte (lent_here (goal.at.returns-then-is_empty c).Start) c.args.row field_at.field field_at.subfield
    (sym (ap length c.leaf_text.ensures) ∙ eqb-true _ _ (sym c.is_empty.ensures ∙ c.if-is_empty.true))))

pub loop-rule-preserved : goal.loop-rule-preserved
unfolding wanted_fields
loop-rule-preserved c =
    let field_at = field_named c.loop-rule.rule in
    elim c.else-asked-kind.branch [
      | else-asked-kind-via-then-asked-kind+else-is_empty w ↦
          field_on (lent_here (goal.at.loop-rule-preserved c).Start) c.args.row c.loop-rule.invariant c.loop-rule-test.true
          (field_filled (lent_here (goal.at.loop-rule-preserved c).Start) c.args.row c.loop-rule.rule c.loop-rule-test.true
          (some_byte (lent_here (goal.at.loop-rule-preserved c).Start) c.args.row field_at.field field_at.subfield
          (λ e. eqb-false _ _ (sym w.is_empty.ensures ∙ w.if-is_empty.false) (ap length w.leaf_text.ensures ∙ e))))
      | else-asked-kind-via-else-asked-kind w ↦
          field_on (lent_here (goal.at.loop-rule-preserved c).Start) c.args.row c.loop-rule.invariant c.loop-rule-test.true
          (other-kind (lent_here (goal.at.loop-rule-preserved c).Start) c.args.row c.loop-rule.rule c.loop-rule-test.true w.if-asked-kind.false)
    ]

pub returns : goal.returns
returns c = fields-done (lent_here (goal.at.returns c).Start) c.args.row c.loop-rule.invariant c.loop-rule-test.false
