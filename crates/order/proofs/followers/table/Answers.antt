-- `order::followers::table` meets its contract: the constant is the table that the grammar gives, computed once over the whole.
-- Assumes nothing.
use mathlib.Core.Path.{refl}
use Rattle.laws.specs.Tables.{values}
use Rattle.order.specs.inner.Followers.{follows, follower, followers}
use Rattle.order.proofs.Seven.{states}
use Rattle.order.proofs.followers.table.Goals as goal

pub returns : goal.returns
unfolding followers follower follows states values
returns c = refl
