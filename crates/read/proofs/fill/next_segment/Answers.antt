-- `read::fill::next_segment` meets its contract: the next leaf, and its number.
-- Assumes nothing.
use Rattle.read.proofs.SegmentLaws.{begun-after}
use Rattle.read.proofs.fill.next_segment.Goals as goal

pub returns : goal.returns
returns c = begun-after c.args.filling c.next_segment.ensures
