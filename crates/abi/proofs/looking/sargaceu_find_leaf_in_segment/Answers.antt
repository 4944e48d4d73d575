-- `abi::looking::sargaceu_find_leaf_in_segment` meets its contract: what the lookup within a segment finds by the card that came in, put into the answer.
-- Assumes nothing.
use Rattle.look.specs.inner.Searching.{sought_in_segment}
use Rattle.abi.proofs.LeafAnswers.{tells_looked}
use Rattle.abi.proofs.looking.sargaceu_find_leaf_in_segment.Goals as goal

pub returns : goal.returns
returns c = tells_looked sought_in_segment c.tell_sought.ensures c.find_leaf_in_segment-sought.ensures c.card_of.ensures
