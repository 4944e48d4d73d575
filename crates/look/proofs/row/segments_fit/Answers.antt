-- `look::row::segments_fit` meets its contract: a count fits exactly where its quotient does.
-- Assumes nothing.
use Rattle.look.proofs.RowSearch.{fit_divided}
use Rattle.look.proofs.row.segments_fit.Goals as goal

pub returns : goal.returns
returns c = fit_divided c.args.segments.now c.args.count
