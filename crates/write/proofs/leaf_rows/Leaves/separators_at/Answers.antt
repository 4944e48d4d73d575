-- `write::leaf_rows::Leaves::separators_at` meets its contract: the second leaf is of four bytes, and its row says where they lie.
-- Assumes nothing.
use Rattle.write.proofs.HeaderTest.{separators_read}
use Rattle.write.proofs.leaf_rows.Leaves.separators_at.Goals as goal

pub returns : goal.returns
returns c = separators_read c.args.field c.args.self.rows.now c.args.self.text.now c.requires c.wide-start.ensures.0
