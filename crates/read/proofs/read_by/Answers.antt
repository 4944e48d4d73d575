-- `read::read_by` meets its contract: the levels in force (O1), and as many bytes for kinds as the form has segments.
-- Assumes nothing.
use mathlib.Core.Path.{refl, ◌∙◌}
use Rattle.std.proofs.lemmas.List.{length-replicate}
use Rattle.order.proofs.LevelTable.{levels_are, levels-below}
use Rattle.read.proofs.Answering.{read_same}
use Rattle.read.proofs.read_by.Goals as goal

pub read_within-requires : goal.read_within-requires
read_within-requires g c =
    record { fits = c.requires.fits; below = levels-below c.table-levels.ensures; notes = length-replicate _ _ ∙ c.requires.notes }

pub returns : goal.returns
returns g c = rw c.of.ensures (read_same refl (levels_are c.table-levels.ensures) c.args.message.now c.read_within.ensures)
