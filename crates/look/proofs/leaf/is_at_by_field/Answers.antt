-- `look::leaf::is_at_by_field` meets its contract: a row with another field has another place.
-- Assumes nothing.
use mathlib.Core.Path.{◌∙◌}
use borrow.Author.Tests.{ne_eqb}
use Rattle.look.proofs.Seeking.{field_differs}
use Rattle.look.proofs.leaf.is_at_by_field.Goals as goal

pub returns-else-leaves-row : goal.returns-else-leaves-row
returns-else-leaves-row c = ne_eqb _ _ c.if-leaves-row.false ∙ field_differs c.args.leaves.now c.args.row c.args.place c.if-leaves-row.false
