-- `order::watcher::may_have_c` meets its contract.
-- Assumes nothing.
use mathlib.Core.Path.{sym}
use Rattle.order.proofs.Allowing.{no_C_first, C_after}
use Rattle.order.proofs.watcher.may_have_c.Goals as goal

pub returns-then-last-lt1 : goal.returns-then-last-lt1
returns-then-last-lt1 c = sym (no_C_first c.args.last c.if-last-lt1.true)

pub returns : goal.returns
returns c = sym (C_after c.args.last c.if-last-lt1.false)
