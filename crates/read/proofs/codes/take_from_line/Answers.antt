-- `read::codes::take_from_line` meets its contract: from the byte that skipping comes to, the line gives what it gives from `from` on.
-- Assumes nothing.
use Rattle.read.proofs.SkippedFields.{skipped_takes, skipped_taken}
use Rattle.read.proofs.codes.take_from_line.Goals as goal

pub skip_fields-requires : goal.skip_fields-requires
skip_fields-requires c = let pre = c.requires in record { inside = pre.inside; begun = pre.begun }

pub take_line-requires : goal.take_line-requires
take_line-requires c = skipped_takes c.requires c.skip_fields.ensures

pub returns : goal.returns
returns c = skipped_taken c.requires c.skip_fields.ensures c.take_line.ensures
