-- `write::leaf_rows::first_in_repetition` meets its contract.
-- Assumes nothing.
use mathlib.Core.List.{[], ◌∷◌}
use mathlib.Core.Path.{◌∙◌}
use lib.ListN.{get_or}
use Prim.Native.Nat.{◌+◌}
use borrow.Author.Tests.{ne_eqb}
use Rattle.laws.specs.Tables.{values}
use Rattle.write.proofs.PlaceTests.{ones_fail, ones_on, one_left}
use Rattle.write.proofs.leaf_rows.first_in_repetition.Goals as goal

pub returns-else-rows-at-eq1 : goal.returns-else-rows-at-eq1
unfolding values
returns-else-rows-at-eq1 c =
    ne_eqb (get_or c.args.rows.now (c.args.at + 3) 0) 1 c.if-rows-at-eq1.false
    ∙ ones_fail (1 ∷ []) (get_or c.args.rows.now (c.args.at + 4) 0 ∷ []) c.if-rows-at-eq1.false

pub returns-then-rows-at-eq1 : goal.returns-then-rows-at-eq1
unfolding values
returns-then-rows-at-eq1 c =
    let last = get_or c.args.rows.now (c.args.at + 4) 0 in
    ones_on (1 ∷ []) (last ∷ []) c.if-rows-at-eq1.true (one_left last)
