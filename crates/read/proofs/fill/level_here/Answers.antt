-- `read::fill::level_here` meets its contract: a C and what is no kind have no level, that of the others stands in the table.
-- Assumes nothing.
use mathlib.Core.Path.{sym}
use Rattle.order.proofs.LevelTable.{no_level_kind, level-there}
use Rattle.read.proofs.fill.level_here.Goals as goal

pub returns-then-kind-gt-L : goal.returns-then-kind-gt-L
returns-then-kind-gt-L c = sym (no_level_kind c.args.levels.now c.args.context c.args.kind c.if-kind-gt-L.true)

pub returns-else-kind-gt-L : goal.returns-else-kind-gt-L
returns-else-kind-gt-L c = sym (level-there c.args.levels.now c.args.context c.args.kind c.requires.0 c.requires.1 c.if-kind-gt-L.false)
