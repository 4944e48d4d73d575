-- `indexed::index_by` meets its contract: the levels in force (O1), and room for the kinds and the starts of as many segments as the form has.
-- Assumes nothing.
use mathlib.Core.Path.{◌∙◌}
use Rattle.std.proofs.lemmas.List.{length-replicate}
use Rattle.order.proofs.LevelTable.{levels_are, levels-below}
use Rattle.read.proofs.Indexing.{indexed_same}
use Rattle.read.proofs.indexed.index_by.Goals as goal

pub index_within-read-requires : goal.index_within-read-requires
index_within-read-requires g c =
    record {
      reads = record { fits = c.requires.fits; below = levels-below c.table-levels.ensures; notes = length-replicate _ _ ∙ c.requires.notes };
      begins = length-replicate _ _ ∙ c.requires.notes;
    }

pub returns : goal.returns
returns g c =
    rw c.of.ensures (indexed_same (levels_are c.table-levels.ensures) c.args.limits c.args.tally c.args.message.now c.index_within-read.ensures)
