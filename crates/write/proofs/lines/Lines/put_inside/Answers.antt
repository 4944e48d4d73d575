-- `write::lines::Lines::put_inside` meets its contract: the byte goes into a line opened for it.
-- Assumes nothing.
use Rattle.write.proofs.Filling.{inside_opens, place-fits, placed_one}
use Rattle.write.proofs.lines.Lines.put_inside.Goals as goal

pub open_line-open-requires : goal.open_line-open-requires
open_line-open-requires c = inside_opens c.requires

pub place-requires : goal.place-requires
place-requires c = place-fits c.requires c.open_line-open.ensures

pub returns : goal.returns
returns c = placed_one c.requires c.open_line-open.ensures c.place.ensures
