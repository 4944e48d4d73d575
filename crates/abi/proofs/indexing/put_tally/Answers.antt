-- `abi::indexing::put_tally` meets its contract: its three numbers, one after the other.
-- Assumes nothing.
use native.Mathlib.Omega.{arith}
use lib.ListN.{length-set}
use Rattle.abi.proofs.IndexAnswers.{tally-put}
use Rattle.abi.proofs.indexing.put_tally.Goals as goal

pub bounds-tally-1 : goal.bounds-tally-1
bounds-tally-1 c = omega (arith, length-set c.args.tally.now 0 c.args.after.messages, c.requires)

pub returns : goal.returns
returns c = tally-put c.args.tally.now c.args.after c.requires
