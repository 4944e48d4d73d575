-- `order::owners::no_rows` meets its contract.
-- Assumes nothing.
use mathlib.Core.Path.{refl}
use Rattle.order.specs.inner.Owning.{no_rows}
use Rattle.order.proofs.owners.no_rows.Goals as goal

pub returns : goal.returns
unfolding no_rows
returns c = refl
