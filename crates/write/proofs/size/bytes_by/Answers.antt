-- `write::size::bytes_by` meets its contract: each form's limits fit the rows, and either levels are low.
-- Assumes nothing.
use mathlib.Core.Path.{◌∙◌}
use Rattle.table.specs.Lent.{lent}
use Rattle.write.proofs.LentTest.{form_asked, form_size}
use Rattle.write.proofs.size.bytes_by.Goals as goal

pub table_bytes-requires : goal.table_bytes-requires
table_bytes-requires c = form_asked c.args.form c.limits.ensures c.args.owners c.levels-levels.ensures

pub returns : goal.returns
returns c =
    c.table_bytes.ensures
    ∙ form_size c.args.form c.limits.ensures c.args.owners c.levels-levels.ensures (lent c.args.card c.args.segments.now c.args.leaves.now c.args.text.now)
