-- `look::leaf::is_at` meets its contract: the first number that differs, or the last one, decides.
-- Assumes nothing.
use mathlib.Core.Bool.{◌&&◌}
use mathlib.Core.Path.{◌≡◌, sym, ◌∙◌}
use borrow.Author.Tests.{eq-eqb, ne_eqb}
use lib.Dec.{eqb}
use lib.ListN.{get_or}
use Prim.Native.Nat.{◌+◌, ◌*◌}
use Rattle.laws.specs.Lists.{same}
use Rattle.table.specs.Rows.{leaf_row_size, place_in}
use Rattle.look.specs.Looking.{numbers_of}
use Rattle.look.proofs.Both.{goes_on, stops}
use Rattle.look.proofs.Seeking.{five_tested}
use Rattle.look.proofs.leaf.is_at.Goals as goal
use Rattle.look.proofs.leaf.is_at.Goals.{Joined-leaves-at-3, then-leaves-at, else-leaves-at, then-leaves-at-2, else-leaves-at-2, then-leaves-at-3, else-leaves-at-3}

-- the five tests, by the first four and the last
decided : (c : Joined-leaves-at-3) → (c.if-leaves-at-3.value && eqb (get_or c.args.leaves.now (c.args.row * leaf_row_size + 4) 0) c.args.place.subsubfield)
    ≡ same (place_in c.args.leaves.now c.args.row) (numbers_of c.args.place)
decided c =
    five_tested c.args.leaves.now c.args.row c.requires c.args.place
    (elim c.if-leaves-at.branch [
      | then-leaves-at w ↦ goes_on (eq-eqb _ _ w.if-leaves-at.true) w.value-is
      | else-leaves-at w ↦ stops _ (ne_eqb _ _ w.if-leaves-at.false) w.value-is
    ])
    (elim c.if-leaves-at-2.branch [
      | then-leaves-at-2 w ↦ goes_on w.if-leaves-at-2.true w.value-is
      | else-leaves-at-2 w ↦ stops _ w.if-leaves-at-2.false w.value-is
    ])
    (elim c.if-leaves-at-3.branch [
      | then-leaves-at-3 w ↦ goes_on w.if-leaves-at-3.true w.value-is
      | else-leaves-at-3 w ↦ stops _ w.if-leaves-at-3.false w.value-is
    ])

pub returns-then-leaves-at-4 : goal.returns-then-leaves-at-4
returns-then-leaves-at-4 c = sym (rw c.if-leaves-at-4.true) ∙ decided (goal.at.returns-then-leaves-at-4 c).Joined-leaves-at-3

pub returns-else-leaves-at-4 : goal.returns-else-leaves-at-4
returns-else-leaves-at-4 c = c.if-leaves-at-4.false ∙ sym (rw c.if-leaves-at-4.false) ∙ decided (goal.at.returns-else-leaves-at-4 c).Joined-leaves-at-3
