-- `source::row::is_addendum` meets its contract: the first two bytes tell.
-- Assumes nothing.
use mathlib.Core.Path.{◌∙◌}
use Rattle.source.proofs.Addenda.{told_by_front}
use Rattle.source.proofs.row.is_addendum.Goals as goal

pub returns : goal.returns
returns c = c.starts_with.ensures.value ∙ told_by_front c.args.field c.args.line.now
