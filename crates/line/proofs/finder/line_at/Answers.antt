-- `line::finder::line_at` meets its contract: it is `find_line` at the form's line.
-- Assumes nothing.
use Rattle.line.proofs.finder.line_at.Goals as goal

pub returns : goal.returns
returns c = c.find_line.ensures
