-- `read::lay::Laying::next_segment` meets its contract: no number passes the leaves closed, so that none wraps.
-- Assumes nothing.
use mathlib.Core.Path.{refl}
use Rattle.read.specs.inner.Laying.{next_segment}
use Rattle.read.proofs.lay.Laying.next_segment.Goals as goal

pub returns : goal.returns
unfolding next_segment
returns c = refl
