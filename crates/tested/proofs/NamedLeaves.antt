-- What code may count on that looks a row's leaf up by its name (S5), in a table that may be searched: the row lies within its buffer, what is found
-- among the row's own leaves is what the lookup finds, and a text that is found lies within the text area.
-- Assumes nothing.
use mathlib.Core.Path.{◌≡◌, sym, ap, ◌∙◌}
use Prim.Native.Nat.{ℕ, suc, ◌+◌, ◌*◌, ◌≤◌, ◌<◌}
use native.Mathlib.Numerals.{add-one}
use native.Mathlib.Omega.{arith}
use lib.ListN.{length}
use Rattle.table.specs.Lent.{Lent}
use Rattle.table.specs.Rows.{segment_row_size}
use Rattle.table.proofs.Lent.{segments-within}
use Rattle.look.specs.declared.leaf.Place.{Place}
use Rattle.look.specs.declared.leaf.Sought.{Sought}
use Rattle.look.specs.declared.leaf.Sought.TheVariants.{At}
use Rattle.look.specs.Looking.{leaf_named}
use Rattle.look.specs.inner.Searching.{sought_in, sought_in_segment}
use Rattle.look.proofs.Seeking.{found_within}
use Rattle.tested.specs.inner.Searchable.{Searchable}

pub row_inside : (t : Lent) → Searchable t → (i : ℕ) → i < t.card.segments → i * segment_row_size + segment_row_size ≤ length t.segment_rows
row_inside t table i h =
    omega (arith, h, segments-within t.card (length t.segment_rows) (length t.leaf_rows) (length t.text) table.within)

-- the leaf of row i, counted from 0; code counts its segment as i + 1
module _ (t : Lent) (i field subfield : ℕ) where
  pub sought_named : Searchable t → {s : Sought} → s ≡ sought_in_segment t (leaf_named (i + 1) field subfield) → s ≡ sought_in t (leaf_named (suc i) field subfield)
  sought_named table e =
      e ∙ ap (sought_in_segment t) (ap {B = Place} (λ (n : ℕ). leaf_named n field subfield) (add-one i)) ∙ table.same (leaf_named (suc i) field subfield)

  pub named-inside : (start n : ℕ) → At start n ≡ sought_in t (leaf_named (suc i) field subfield) → start + n ≤ length t.text
  named-inside start n e = found_within t (leaf_named (suc i) field subfield) start n (sym e)
