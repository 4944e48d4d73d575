-- `write::leaf_rows::next_in_repetition` meets its contract: the subfields decide, and the last numbers where they are the same.
-- Assumes nothing.
use mathlib.Core.Path.{sym, ◌∙◌}
use Prim.Native.Nat.{◌+◌}
use lib.ListN.{get_or}
use Rattle.laws.specs.Tables.{values}
use Rattle.table.specs.inner.Flat.{ones}
use Rattle.write.proofs.PlaceTests.{one_left, next-left, next_goes_on, next-fails, next-rises, next_last}
use Rattle.write.proofs.leaf_rows.next_in_repetition.Goals as goal

pub returns-else-one_more : goal.returns-else-one_more
unfolding values
returns-else-one_more c = c.if-one_more.false ∙ next-fails (next-left c.requires 3) c.if-subfield-later_subfield.true (sym c.one_more.ensures ∙ c.if-one_more.false)

pub returns-then-one_more : goal.returns-then-one_more
unfolding values ones
returns-then-one_more c =
    next-rises (next-left c.requires 3) c.if-subfield-later_subfield.true (sym c.one_more.ensures ∙ c.if-one_more.true)
    (one_left (get_or c.args.rows.now (c.args.to + 4) 0))

pub returns : goal.returns
unfolding values
returns c = c.one_more-2.ensures ∙ next_last (next_goes_on (next-left c.requires 3) c.if-subfield-later_subfield.false)
