-- `write::leaf_rows::first_in_field` meets its contract.
-- Assumes nothing.
use mathlib.Core.List.{[], ◌∷◌}
use mathlib.Core.Path.{◌∙◌}
use lib.ListN.{get_or}
use Prim.Native.Nat.{◌+◌}
use borrow.Author.Tests.{ne_eqb}
use Rattle.laws.specs.Tables.{values}
use Rattle.write.specs.inner.Tests.{finer}
use Rattle.write.proofs.PlaceTests.{ones_fail, ones_on}
use Rattle.write.proofs.leaf_rows.first_in_field.Goals as goal

pub returns-else-rows-at-eq1 : goal.returns-else-rows-at-eq1
unfolding values
returns-else-rows-at-eq1 c =
    ne_eqb (get_or c.args.rows.now (c.args.at + 2) 0) 1 c.if-rows-at-eq1.false
    ∙ ones_fail (1 ∷ 1 ∷ []) (finer c.args.rows.now c.args.at 3) c.if-rows-at-eq1.false

pub returns-then-rows-at-eq1 : goal.returns-then-rows-at-eq1
unfolding values
returns-then-rows-at-eq1 c = ones_on (1 ∷ 1 ∷ []) (finer c.args.rows.now c.args.at 3) c.if-rows-at-eq1.true c.first_in_repetition.ensures
