-- `write::leaves::separator` meets its contract: number by number, the coarsest first.
-- Assumes nothing.
use Rattle.write.proofs.RowPlaces.{inside-same, other_field, other_repetition, other_subfield, other_subsubfield}
use Rattle.write.proofs.leaves.separator.Goals as goal

pub returns-then-leaves-at : goal.returns-then-leaves-at
returns-then-leaves-at c = other_field c.args.separators c.requires.row_there (inside-same c.requires) c.if-leaves-at.true

pub returns-then-leaves-at-2 : goal.returns-then-leaves-at-2
returns-then-leaves-at-2 c = other_repetition c.args.separators c.requires.row_there (inside-same c.requires) c.if-leaves-at.false c.if-leaves-at-2.true

pub returns-then-leaves-at-3 : goal.returns-then-leaves-at-3
returns-then-leaves-at-3 c = other_subfield c.args.separators c.requires.row_there (inside-same c.requires) c.if-leaves-at.false c.if-leaves-at-2.false c.if-leaves-at-3.true

pub returns : goal.returns
returns c = other_subsubfield c.args.separators c.requires.row_there (inside-same c.requires) c.if-leaves-at.false c.if-leaves-at-2.false c.if-leaves-at-3.false
