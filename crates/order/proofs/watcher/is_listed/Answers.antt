-- `order::watcher::is_listed` meets its contract: the three numbers are within the table.
-- Assumes nothing.
use mathlib.Core.Path.{refl}
use Rattle.order.specs.inner.Telling.{follows_by}
use Rattle.order.proofs.watcher.is_listed.Goals as goal

pub returns : goal.returns
unfolding follows_by
returns c = refl
