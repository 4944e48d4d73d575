-- `write::leaf_rows::Leaves::text_of` meets its contract: the row says where the text lies.
-- Assumes nothing.
use Rattle.write.proofs.SegmentTests.{row-text}
use Rattle.write.proofs.leaf_rows.Leaves.text_of.Goals as goal

pub returns : goal.returns
returns c = row-text c.args.self.rows.now c.args.self.text.now c.args.leaf c.wide-start.ensures.0 c.wide.ensures.0
