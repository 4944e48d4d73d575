-- `abi::indexing::tally_of` meets its contract: the first three numbers.
-- Assumes nothing.
use mathlib.Core.Path.{refl}
use Rattle.abi.specs.Indexing.{tally_of}
use Rattle.abi.proofs.indexing.tally_of.Goals as goal

pub returns : goal.returns
unfolding tally_of
returns c = refl
