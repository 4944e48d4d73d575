-- `abi::looking::sargaceu_find_leaf` meets its contract: what the lookup finds by the card that came in, put into the answer.
-- Assumes nothing.
use Rattle.look.specs.inner.Searching.{sought_in}
use Rattle.abi.proofs.LeafAnswers.{tells_looked}
use Rattle.abi.proofs.looking.sargaceu_find_leaf.Goals as goal

pub returns : goal.returns
returns c = tells_looked sought_in c.tell_sought.ensures c.find_leaf-sought.ensures c.card_of.ensures
