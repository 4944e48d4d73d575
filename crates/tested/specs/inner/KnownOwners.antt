-- Who owns whom in a lent table that passes the table test (W4).
-- Assumes nothing.
use Rattle.std.specs.Prelude.{◌≡◌, ℕ, ◌≤◌, ◌<◌}
use Rattle.order.specs.Owners.{level}
use Rattle.order.specs.OwnerKinds.{owner_kind}
use Rattle.table.specs.Lent.{Lent}
use Rattle.table.specs.Rows.{kind_in, owner_in}
use Rattle.table.specs.OwnedRows.{NearestRow}

-- who owns whom in a table that some message reads to, by the levels in force: where `owner_kind` names a kind, the owner is the nearest row of that kind
-- (O5); and of the rows between a row and its owner, or before a row that has none, C (kind 12) left out, none has a lower level than the row (O2)
pub record KnownOwners (t : Lent) : Type 0 where
  pub nearest : (i : ℕ) → i < t.card.segments → 1 ≤ owner_kind t.card.context (kind_in t.segment_rows i)
      → NearestRow (owner_kind t.card.context (kind_in t.segment_rows i)) t.segment_rows i
  pub none_lower : (i m : ℕ) → i < t.card.segments → owner_in t.segment_rows i ≤ m → m < i
      → (kind_in t.segment_rows i ≡ 12 → ⊥) → (kind_in t.segment_rows m ≡ 12 → ⊥)
      → level t.card.context (kind_in t.segment_rows i) ≤ level t.card.context (kind_in t.segment_rows m)
