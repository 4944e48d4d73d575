-- `look::leaf::found` meets its contract: the length decides.
-- Assumes nothing.
use mathlib.Core.Path.{sym}
use Rattle.look.proofs.Seeking.{found_empty, found_some}
use Rattle.look.proofs.leaf.found.Goals as goal

pub returns-then-length-eq0 : goal.returns-then-length-eq0
returns-then-length-eq0 c = sym (found_empty c.args.start c.args.length c.if-length-eq0.true)

pub returns-else-length-eq0 : goal.returns-else-length-eq0
returns-else-length-eq0 c = sym (found_some c.args.start c.args.length c.if-length-eq0.false)
