-- Who owns a row of a table (rule O5), by the kinds in the rows.
-- Assumes nothing.
use Rattle.std.specs.Prelude.{List, ℕ}
use Rattle.order.specs.OwnerKinds.{NearestOf}
use Rattle.table.specs.Rows.{kind_in, owner_in}

-- the owner in row i of segment rows, counted from 0, is the nearest row of a kind before it
abbrev pub NearestRow : ℕ → List ℕ → ℕ → Type 0
NearestRow kind rows i = NearestOf kind (kind_in rows) i (owner_in rows i)
