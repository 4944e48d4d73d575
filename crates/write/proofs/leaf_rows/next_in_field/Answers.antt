-- `write::leaf_rows::next_in_field` meets its contract: the repetitions decide, and what is left of the places where they are the same.
-- Assumes nothing.
use mathlib.Core.Path.{sym, ◌∙◌}
use Rattle.laws.specs.Tables.{values}
use Rattle.table.specs.inner.Flat.{ones}
use Rattle.write.proofs.PlaceTests.{next-left, next_goes_on, next-fails, next-rises}
use Rattle.write.proofs.leaf_rows.next_in_field.Goals as goal

pub returns-else-one_more : goal.returns-else-one_more
unfolding values
returns-else-one_more c = c.if-one_more.false ∙ next-fails (next-left c.requires 2) c.if-repetition-later_repetition.true (sym c.one_more.ensures ∙ c.if-one_more.false)

pub returns-then-one_more : goal.returns-then-one_more
unfolding values ones
returns-then-one_more c =
    next-rises (next-left c.requires 2) c.if-repetition-later_repetition.true
    (sym c.one_more.ensures ∙ c.if-one_more.true) c.first_in_repetition.ensures

pub returns : goal.returns
unfolding values
returns c = c.next_in_repetition.ensures ∙ (next_goes_on (next-left c.requires 2) c.if-repetition-later_repetition.false).so
