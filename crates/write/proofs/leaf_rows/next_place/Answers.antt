-- `write::leaf_rows::next_place` meets its contract: the segments decide, then the fields, then what is left of the places.
-- Assumes nothing.
use mathlib.Core.Path.{sym, ◌∙◌}
use Rattle.laws.specs.Tables.{values}
use Rattle.table.specs.inner.Flat.{ones}
use Rattle.write.proofs.PlaceTests.{next-numbers, next_goes_on, next-fails, next-rises}
use Rattle.write.proofs.leaf_rows.next_place.Goals as goal

pub returns-else-one_more : goal.returns-else-one_more
returns-else-one_more c = c.if-one_more.false ∙ next-fails (next-numbers c.requires) c.if-segment-later_segment.true (sym c.one_more.ensures ∙ c.if-one_more.false)

pub returns-then-one_more : goal.returns-then-one_more
unfolding values ones
returns-then-one_more c =
    next-rises (next-numbers c.requires) c.if-segment-later_segment.true
    (sym c.one_more.ensures ∙ c.if-one_more.true) c.first_in_segment.ensures

pub returns-else-one_more-2 : goal.returns-else-one_more-2
unfolding values
returns-else-one_more-2 c =
    c.if-one_more-2.false
    ∙ next-fails (next_goes_on (next-numbers c.requires) c.if-segment-later_segment.false) c.if-field-later_field.true
    (sym c.one_more-then-field-later_field.ensures ∙ c.if-one_more-2.false)

pub returns-then-one_more-2 : goal.returns-then-one_more-2
unfolding values ones
returns-then-one_more-2 c =
    next-rises (next_goes_on (next-numbers c.requires) c.if-segment-later_segment.false) c.if-field-later_field.true
    (sym c.one_more-then-field-later_field.ensures ∙ c.if-one_more-2.true) c.first_in_field.ensures

pub returns : goal.returns
unfolding values
returns c =
    let numbers = next_goes_on (next-numbers c.requires) c.if-segment-later_segment.false in
    c.next_in_field.ensures ∙ (next_goes_on numbers c.if-field-later_field.false).so
