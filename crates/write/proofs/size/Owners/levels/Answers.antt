-- `write::size::Owners::levels` meets its contract: each owners have their own table of levels.
-- Assumes nothing.
use borrow.Author.Rules.{rules}
use Rattle.write.specs.inner.EitherOwners.{level_table_by}
use Rattle.write.proofs.size.Owners.levels.Goals as goal

pub returns-in-InForce : goal.returns-in-InForce
unfolding level_table_by
returns-in-InForce c = search rules

pub returns-in-Former : goal.returns-in-Former
unfolding level_table_by
returns-in-Former c = search rules
