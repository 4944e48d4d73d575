-- What may be counted on of every lent table that passes the table test (W4): each of its rows is that of a segment of some message (T2), its leaf
-- texts lie within the counted text (T4), and by the levels in force it is known who owns whom (O2, O5).
-- Assumes nothing.
use mathlib.Core.Bool.{true}
use mathlib.Core.List.{List}
use mathlib.Core.Path.{◌≡◌}
use Prim.Native.Nat.{ℕ, ◌<◌}
use native.Mathlib.Omega.{arith}
use Rattle.form.specs.declared.limits.Limits.{Limits}
use Rattle.form.specs.Limits.{Lawful}
use Rattle.order.specs.Owners.{level}
use Rattle.table.specs.Lent.{Lent, counted}
use Rattle.table.specs.Rows.{width}
use Rattle.table.specs.Reading.{stated}
use Rattle.table.proofs.Accepting.{Accepted, accepting}
use Rattle.table.proofs.EndToEnd.{ended-within}
use Rattle.table.proofs.Lent.{few-segments}
use Rattle.write.specs.inner.ReadsBack.{is_table}
use Rattle.write.specs.Writing.{ReadTo}
use Rattle.write.proofs.LentTables.{table-within, is_table_lem, is_table_rows}
use Rattle.look.proofs.SameAnswer.{table-answer}
use Rattle.tested.specs.inner.KnownOwners.{KnownOwners}
use Rattle.tested.specs.inner.Searchable.{Searchable}
use Rattle.tested.proofs.LentLeaves.{text-taken, first_leaf, last_leaf, named-leaf}
use Rattle.tested.proofs.LentOwners.{nearest-lent, none_lower_lent}

-- what a message that reads to a lent table passed
pub read_so : (L : Limits) (levels : ℕ → ℕ → ℕ) (t : Lent) (to : ReadTo L levels (counted t)) → Accepted L levels (stated L) to.0 (counted t)
read_so L levels t to = (accepting L levels (stated L) to.0 (counted t)).0 to.1

module _ (L : Limits) (lawful : Lawful L) (levels : ℕ → ℕ → ℕ) (t : Lent) (passes : is_table L levels t ≡ true) where
  -- the message that reads to a table that passes the test, and what that message passed
  pub read-to : (message : List ℕ) × Accepted L levels (stated L) message (counted t)
  read-to = let to = ((is_table_lem L lawful levels t).0 passes).1 in (to.0, read_so L levels t to)

  -- it may be searched, where no row number is wider than a column
  pub searchable : L.segments < width → Searchable t
  unfolding counted
  searchable small =
      let w = read-to.1 in
      let rows = (is_table_rows L lawful levels t).0 passes in
      record {
        within = rows.0;
        few = omega (arith, small, few-segments L t.card (table-within L lawful levels t passes));
        first = first_leaf t w.segments;
        last = last_leaf t w.segments;
        texts = λ i h. text-taken t i h (ended-within (counted t).leaf_rows t.card.text t.card.leaves rows.1.laid i h);
        named = named-leaf t w.segments;
        same = table-answer t levels w.separators _ w.segments.table;
      }

-- by the levels in force it is known who owns whom
pub known-owners : (L : Limits) (lawful : Lawful L) (t : Lent) → is_table L level t ≡ true → KnownOwners t
known-owners L lawful t passes =
    let w = (read-to L lawful level t passes).1 in
    record { nearest = nearest-lent t w.segments; none_lower = none_lower_lent t w.segments }
