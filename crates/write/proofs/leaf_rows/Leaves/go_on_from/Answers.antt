-- `write::leaf_rows::Leaves::go_on_from` meets its contract: the third row's field, and then the bytes from its start on.
-- Assumes nothing.
use native.Mathlib.Omega.{arith}
use mathlib.Core.Path.{refl, ◌∙◌}
use Prim.Native.Nat.{◌-◌, ◌≤◌, ◌*◌}
use lib.ListN.{length, take, drop}
use Rattle.form.specs.Header.{splitting}
use Rattle.table.proofs.Classes.{classes-set}
use Rattle.write.proofs.ClassTables.{text_by_classes}
use Rattle.write.proofs.LaidRows.{in_text_fits}
use Rattle.write.proofs.GoingOn.{third_elsewhere, third_decides}
use Rattle.table.specs.Rows.{leaf_row_size}
use Rattle.write.proofs.leaf_rows.Leaves.go_on_from.Goals as goal
use Rattle.write.proofs.leaf_rows.Leaves.go_on_from.Goals.{Start, After-wide-start}

-- three rows at least
rows-there : (s : Start) → 3 * leaf_row_size ≤ length s.args.self.rows.now
rows-there s = let laid = s.requires.laid in omega (arith, laid.in_text.sized, laid.three)

pub returns-then-self-ne3 : goal.returns-then-self-ne3
returns-then-self-ne3 c = third_elsewhere (splitting c.args.separators) c.args.self.rows.now c.args.self.text.now c.args.self.count c.requires.laid.three c.if-self-ne3.true

-- the third text begins within
third_starts : (c : After-wide-start) → c.wide-start.result ≤ length c.args.self.text.now
third_starts c = let laid = c.requires.laid in omega (arith, c.wide-start.ensures.0, in_text_fits laid.in_text 2 laid.three)

pub slice_bounds-leaf_text-count : goal.slice_bounds-leaf_text-count
slice_bounds-leaf_text-count c = third_starts (goal.at.slice_bounds-leaf_text-count c).After-wide-start

pub slice_bounds-leaf_text-start : goal.slice_bounds-leaf_text-start
slice_bounds-leaf_text-start c = third_starts (goal.at.slice_bounds-leaf_text-start c).After-wide-start

pub returns : goal.returns
returns c =
    let start = c.wide-start.result in
    c.leaf_text.ensures.all
    ∙ text_by_classes c.args.separators (classes-set c.args.separators refl c.set_classes.ensures) (take (length c.args.self.text.now - start) (drop start c.args.self.text.now))
    c.leaf_text.ensures.bytes
    ∙ third_decides (splitting c.args.separators) c.args.self.rows.now c.args.self.text.now c.args.self.count c.requires c.if-self-ne3.false c.wide-start.ensures.0
