-- The leaf rows of a lent table whose counted entries are the table of joined segments (T2, T3): those that a segment row names are among those
-- counted, and each is one of those that its segment's row names.
-- Assumes nothing.
use mathlib.Core.Bool.{true}
use mathlib.Core.List.{List}
use mathlib.Core.Path.{◌≡◌, sym, ap, ◌∙◌, subst, subst⁻¹}
use Prim.Native.Nat.{ℕ, ◌+◌, ◌*◌, ◌-◌, ◌≤◌, ◌<◌}
use native.Mathlib.Omega.{arith}
use lib.ListN.{length, get_or}
use Rattle.laws.specs.Lists.{concat}
use Rattle.laws.proofs.Parts.{part_taken}
use Rattle.laws.proofs.Sums.{part_within}
use Rattle.form.specs.declared.limits.Limits.{Limits}
use Rattle.form.specs.declared.separators.Separators.{Separators}
use Rattle.table.specs.Lent.{Lent, counted}
use Rattle.table.specs.Leaves.{message_leaves}
use Rattle.table.specs.Rows.{Table, leaf_row_size, first_in, count_in, place_in, start_in, length_in, all_leaves, table_of}
use Rattle.table.proofs.Accepting.{Judged}
use Rattle.table.proofs.OwnLeaves.{Named, own_leaf}
use Rattle.look.specs.Looking.{is_named}
use Rattle.look.proofs.Entries.{start-taken, length_taken, named-taken}
use Rattle.look.proofs.SameAnswer.{named_by}
use Rattle.tested.proofs.LentRows.{row_at}

-- a counted leaf row is a row of its buffer
module _ (t : Lent) (i : ℕ) (h : i < t.card.leaves) where
  place-taken : place_in (counted t).leaf_rows i ≡ place_in t.leaf_rows i
  unfolding counted
  place-taken = part_taken t.leaf_rows (i * leaf_row_size) 5 (t.card.leaves * leaf_row_size) (omega arith)

  pub text-taken : start_in (counted t).leaf_rows i + length_in (counted t).leaf_rows i ≤ t.card.text
      → start_in t.leaf_rows i + length_in t.leaf_rows i ≤ t.card.text
  text-taken fits = omega (arith, fits, start-taken t i h, length_taken t i h)

module _ {L : Limits} {levels : ℕ → ℕ → ℕ} {ps : Separators} {segs : List (List ℕ)} (t : Lent) (w : Judged L levels ps segs (counted t)) where
  -- the card counts all leaves
  leaf-count : length (concat (message_leaves ps segs)) ≡ t.card.leaves
  unfolding counted table_of all_leaves
  leaf-count = sym (ap (λ (T : Table). T.card.leaves) w.table)

  -- those of a segment row are among them
  pub first_leaf : (i : ℕ) → i < t.card.segments → 1 ≤ first_in t.segment_rows i
  first_leaf i h = omega (arith, (row_at t w i h).first_is)

  pub last_leaf : (i : ℕ) → i < t.card.segments → first_in t.segment_rows i - 1 + count_in t.segment_rows i ≤ t.card.leaves
  last_leaf i h =
      let row = row_at t w i h in
      omega (arith, row.first_is, row.count_is, part_within (message_leaves ps segs) i, leaf-count)

  -- each leaf row is one of those that its segment's row names
  pub named-leaf : (i : ℕ) → i < t.card.leaves → is_named t (get_or (place_in t.leaf_rows i) 0 0) i ≡ true
  unfolding counted
  named-leaf i h =
      let within : i < (table_of levels ps segs).card.leaves = subst (λ (T : Table). i < T.card.leaves) w.table h in
      let here = subst⁻¹ (λ (T : Table). Named T (get_or (place_in T.leaf_rows i) 0 0) i) w.table (own_leaf levels ps segs i within) in
      let s = get_or (place_in t.leaf_rows i) 0 0 in
      sym (named-taken t s i) ∙ named_by (counted t) s i (subst (λ (p : List ℕ). Named (counted t) (get_or p 0 0) i) (place-taken t i h) here)
