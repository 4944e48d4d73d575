-- The numeric results of an order (D6): the tests of a row in their order, and where the rows that pass them lie.
-- Assumes nothing.
use mathlib.Core.Bool.{true, false, ◌&&◌}
use mathlib.Core.List.{List}
use mathlib.Core.Logic.{◌⊎◌, inl, inr}
use mathlib.Core.Path.{◌≡◌, sym, ap, ◌∙◌}
use Prim.Native.Nat.{ℕ, ◌+◌, ◌-◌, ◌≤◌, ◌<◌}
use native.Mathlib.Omega.{arith}
use borrow.Author.Tests.{eqb-true, eq-eqb, ne_eqb}
use lib.Dec.{eqb}
use lib.ListN.{length}
use Rattle.laws.specs.Tables.{passing}
use Rattle.laws.proofs.Passing.{passing-behind}
use Rattle.laws.proofs.Tests.{Tested, passed, failed, tested, and_first, and_second, and_both, and_passed, and_fails_first, and_fails_second}
use Rattle.table.specs.Lent.{Lent}
use Rattle.table.specs.Rows.{kind_in, owner_in}
use Rattle.look.specs.declared.leaf.Sought.{Sought}
use Rattle.look.specs.declared.leaf.Sought.TheVariants.{At, Empty, NotThere}
use Rattle.look.specs.Looking.{leaf_named, says_text, has_kind_and_owner}
use Rattle.look.specs.inner.Searching.{sought_in, sought_in_segment}
use Rattle.tested.specs.inner.Searchable.{Searchable}
use Rattle.tested.proofs.NamedLeaves.{sought_named, named-inside}
use Rattle.value.specs.Results.{type_field, numeric_type, type_place, is_numeric, numeric_rows}
use Rattle.value.specs.inner.Seeking.{OrderRows}

-- a lookup that finds no text finds no type
pub no_type : (text : List ℕ) {s : Sought} → (s ≡ Empty) ⊎ (s ≡ NotThere) → false ≡ says_text text numeric_type s
unfolding says_text
no_type text (inl e) = sym (ap (says_text text numeric_type) e)
no_type text (inr e) = sym (ap (says_text text numeric_type) e)

-- the tests of a row
module _ (t : Lent) (order i : ℕ) where
  abbrev type_sought : Sought
  type_sought = sought_in t (type_place i)

  pub other_kind : (kind_in t.segment_rows i ≡ 6 → ⊥) → false ≡ is_numeric t order i
  unfolding is_numeric has_kind_and_owner
  other_kind n =
      sym
      (and_fails_first (says_text t.text numeric_type type_sought)
      (and_fails_first (eqb (owner_in t.segment_rows i) order) (ne_eqb (kind_in t.segment_rows i) 6 n)))

  pub other_owner : eqb (owner_in t.segment_rows i) order ≡ false → false ≡ is_numeric t order i
  unfolding is_numeric has_kind_and_owner
  other_owner e = sym (and_fails_first (says_text t.text numeric_type type_sought) (and_fails_second (eqb (kind_in t.segment_rows i) 6) e))

  -- an OBX of the order: its type decides
  pub by_type : kind_in t.segment_rows i ≡ 6 → eqb (owner_in t.segment_rows i) order ≡ true → says_text t.text numeric_type type_sought ≡ is_numeric t order i
  unfolding is_numeric has_kind_and_owner
  by_type k e =
      sym (and_passed (says_text t.text numeric_type type_sought) (and_both (eq-eqb (kind_in t.segment_rows i) 6 k) e))

  -- what passes is an OBX of the order
  pub numeric_kind : is_numeric t order i ≡ true → kind_in t.segment_rows i ≡ 6
  unfolding is_numeric has_kind_and_owner
  numeric_kind e =
      eqb-true (kind_in t.segment_rows i) 6
      (and_first (eqb (kind_in t.segment_rows i) 6) (eqb (owner_in t.segment_rows i) order)
      (and_first (eqb (kind_in t.segment_rows i) 6 && eqb (owner_in t.segment_rows i) order) (says_text t.text numeric_type type_sought) e))

  pub numeric_owner : is_numeric t order i ≡ true → owner_in t.segment_rows i ≡ order
  unfolding is_numeric has_kind_and_owner
  numeric_owner e =
      eqb-true (owner_in t.segment_rows i) order
      (and_second (eqb (kind_in t.segment_rows i) 6) (eqb (owner_in t.segment_rows i) order)
      (and_first (eqb (kind_in t.segment_rows i) 6 && eqb (owner_in t.segment_rows i) order) (says_text t.text numeric_type type_sought) e))

-- the type that is found within the segment is the one that is sought, and lies within the text
module _ (t : Lent) (i : ℕ) where
  pub type_sought_lem : Searchable t → {s : Sought} → s ≡ sought_in_segment t (leaf_named (i + 1) type_field 1) → s ≡ sought_in t (type_place i)
  unfolding type_place
  type_sought_lem table = sought_named t i type_field 1 table

  pub type_inside : (start n : ℕ) → At start n ≡ sought_in t (type_place i) → start + n ≤ length t.text
  unfolding type_place
  type_inside = named-inside t i type_field 1

-- the results of an order
module _ (t : Lent) (order : ℕ) (rows : OrderRows t order) where
  -- none stands before it
  none_before : (k : ℕ) → k < order → is_numeric t order k ≡ false
  none_before k h = by (tested (is_numeric t order k))
    where
      by : Tested (is_numeric t order k) → is_numeric t order k ≡ false
      by (failed e) = e
      by (passed e) = absurd (omega (arith, h, numeric_owner t order k e, rows.together.earlier k (omega (arith, h, rows.counts))))

  pub from_the_order : numeric_rows t order ≡ passing (is_numeric t order) order (t.card.segments - order)
  from_the_order =
      passing-behind (is_numeric t order) order 0 (t.card.segments - order) t.card.segments (omega (arith, rows.counts))
      (λ k g h. none_before k (omega (arith, h)))
      ∙ ap (λ (n : ℕ). passing (is_numeric t order) n (t.card.segments - order)) (let e : 0 + order ≡ order = omega arith in e)

  -- none stands behind a row that belongs to an earlier one
  pub none-behind : (j : ℕ) → order ≤ j → owner_in t.segment_rows j < order → (k : ℕ) → j ≤ k → k < t.card.segments → is_numeric t order k ≡ false
  none-behind j g l k h w = by (tested (is_numeric t order k))
    where
      by : Tested (is_numeric t order k) → is_numeric t order k ≡ false
      by (failed e) = e
      by (passed e) = absurd (rows.together.ends j k g h w l (numeric_kind t order k e) (numeric_owner t order k e))
