-- Limits (T6) whose numbers fit the rows (T1).
-- Assumes nothing.
use Rattle.std.specs.Prelude.{◌+◌, ◌<◌}
use Rattle.form.specs.declared.limits.Limits.{Limits}
use Rattle.form.specs.Limits.{Lawful}
use Rattle.table.specs.Rows.{width}

-- lawful limits whose numbers fit the rows: each count that they allow, and the one after it
pub record FitsRows (L : Limits) : Type 0 where
  pub lawful : Lawful L
  pub segments : L.segments + 1 < width
  pub leaves : L.leaves + 1 < width
  pub bytes : L.bytes + 1 < width
