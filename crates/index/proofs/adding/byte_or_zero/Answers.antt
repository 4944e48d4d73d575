-- `index::adding::byte_or_zero` meets its contract: behind the end of a list stands 0. Assumes nothing.
use mathlib.Core.Path.{sym}
use lib.ListN.{get_or-eq_default}
use Rattle.index.proofs.adding.byte_or_zero.Goals as goal

pub returns : goal.returns
returns c = sym (get_or-eq_default c.args.code.now 0 c.if-k-code.false)
