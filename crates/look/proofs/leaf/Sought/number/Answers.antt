-- `look::leaf::Sought::number` meets its contract: each case has its number.
-- Assumes nothing.
use Rattle.look.specs.Looking.{sought_number}
use borrow.Author.Rules.{rules}
use Rattle.look.proofs.leaf.Sought.number.Goals as goal

pub returns-in-At : goal.returns-in-At
unfolding sought_number
returns-in-At c = search rules

pub returns-in-Empty : goal.returns-in-Empty
unfolding sought_number
returns-in-Empty c = search rules

pub returns-in-NotThere : goal.returns-in-NotThere
unfolding sought_number
returns-in-NotThere c = search rules
