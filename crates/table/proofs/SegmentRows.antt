-- Segment rows as a loop tests them: a row states its segment's kind, its owner, its first leaf and its leaf count.
-- Assumes nothing.
use mathlib.Core.List.{List, [], ◌∷◌, ◌++◌, map, head-eq_of_cons-eq, tail-eq_of_cons-eq}
use mathlib.Core.Logic.{◌↔◌}
use mathlib.Core.Path.{◌≡◌, refl, sym, ap, ap₂, ◌∙◌}
use Prim.Native.Nat.{ℕ, suc, ◌+◌, ◌*◌, ◌≤◌}
use native.Mathlib.Omega.{arith}
use lib.ListN.{length, drop, get_or, length-map}
use Rattle.laws.proofs.Parts.{left_cons}
use Rattle.order.specs.Owners.{owner, owners, owners_after}
use Rattle.order.proofs.Owner.{length-owners}
use Rattle.table.specs.Leaves.{Leaf}
use Rattle.table.specs.Rows.{segment_row_size, segment_row, Next, none_before, next_after, row_next, segment_rows_from, segment_rows_of, RowIs, kind_in, owner_in, first_in, count_in}
use Rattle.table.specs.inner.BySegment.{kind_among}
use Rattle.table.specs.inner.RowTests.{rows_stated, stated_rows}
use Rattle.table.proofs.RowsGrowing.{length-segment_rows}

-- the rows of kinds, owners and leaves are those that the leaves state
pub rows-stated : (lv : ℕ → ℕ) (n : Next) (before : List ℕ) (groups : List (List Leaf))
    → segment_rows_from n (map kind_among groups) (owners_after lv before (map kind_among groups)) groups ≡ rows_stated lv n before groups
unfolding segment_rows_from owners_after rows_stated
rows-stated lv n before [] = refl
rows-stated lv n before (g ∷ gs) =
    ap (λ (r : List ℕ). row_next n (kind_among g) (owner lv before (kind_among g)) g ++ r)
    (rows-stated lv (next_after n g) (kind_among g ∷ before) gs)

pub owners-stated : (lv : ℕ → ℕ) (groups : List (List Leaf))
    → segment_rows_of (map kind_among groups) (owners lv (map kind_among groups)) groups ≡ stated_rows lv groups
unfolding owners
owners-stated lv groups = rows-stated lv none_before [] groups

-- as many rows as segments
pub length-stated : (lv : ℕ → ℕ) (groups : List (List Leaf)) → length (stated_rows lv groups) ≡ length groups * segment_row_size
length-stated lv groups =
    ap length (sym (owners-stated lv groups))
    ∙ length-segment_rows (map kind_among groups) (owners lv (map kind_among groups)) groups
    (length-owners lv (map kind_among groups)) (sym (length-map groups kind_among))
    ∙ ap (λ (n : ℕ). n * segment_row_size) (length-map groups kind_among)

module _ (rows : List ℕ) (j : ℕ) (long : suc j * segment_row_size ≤ length rows) where
  -- a row and the rows after it
  row_cons : drop (j * segment_row_size) rows
      ≡ segment_row (kind_in rows j) (owner_in rows j) (first_in rows j) (count_in rows j) ++ drop (suc j * segment_row_size) rows
  row_cons =
      left_cons rows (j * segment_row_size) 0 (omega arith)
      ∙ ap (λ (r : List ℕ). kind_in rows j ∷ r)
      (left_cons rows (j * segment_row_size + 1) 0 (omega arith)
      ∙ ap (λ (r : List ℕ). owner_in rows j ∷ r)
      (next 1 2 (omega arith) (omega arith)
      ∙ ap (λ (r : List ℕ). first_in rows j ∷ r)
      (next 2 3 (omega arith) (omega arith)
      ∙ ap (λ (k : ℕ). count_in rows j ∷ drop k rows) after)))
    where
      next : (k n : ℕ) → n ≡ k + 1 → n ≤ 3
          → drop (j * segment_row_size + k + 1) rows ≡ get_or rows (j * segment_row_size + n) 0 ∷ drop (j * segment_row_size + n + 1) rows
      next k n e small =
          ap (λ (i : ℕ). drop i rows) (let at : j * segment_row_size + k + 1 ≡ j * segment_row_size + n = omega arith in at)
          ∙ left_cons rows (j * segment_row_size + n) 0 (omega arith)

      after : j * segment_row_size + 3 + 1 ≡ suc j * segment_row_size
      after = omega arith

  -- what is left of the rows begins with given numbers exactly where row j has them
  pub row_states_lem : (kind owner first count : ℕ) (more : List ℕ)
      → (drop (j * segment_row_size) rows ≡ segment_row kind owner first count ++ more)
      ↔ (RowIs rows j kind owner first count × (drop (suc j * segment_row_size) rows ≡ more))
  row_states_lem kind owner first count more = (forth, back)
    where
      forth : drop (j * segment_row_size) rows ≡ segment_row kind owner first count ++ more
          → RowIs rows j kind owner first count × (drop (suc j * segment_row_size) rows ≡ more)
      forth e =
          let one = sym row_cons ∙ e in
          let two = tail-eq_of_cons-eq one in
          let three = tail-eq_of_cons-eq two in
          let four = tail-eq_of_cons-eq three in (
            record {
              kind_is = head-eq_of_cons-eq one;
              owner_is = head-eq_of_cons-eq two;
              first_is = head-eq_of_cons-eq three;
              count_is = head-eq_of_cons-eq four;
            },
            tail-eq_of_cons-eq four,
          )

      back : RowIs rows j kind owner first count × (drop (suc j * segment_row_size) rows ≡ more)
          → drop (j * segment_row_size) rows ≡ segment_row kind owner first count ++ more
      back w =
          row_cons
          ∙ ap₂ (λ (a : ℕ) (r : List ℕ). a ∷ r) w.0.kind_is
          (ap₂ (λ (a : ℕ) (r : List ℕ). a ∷ r) w.0.owner_is
          (ap₂ (λ (a : ℕ) (r : List ℕ). a ∷ r) w.0.first_is
          (ap₂ (λ (a : ℕ) (r : List ℕ). a ∷ r) w.0.count_is w.1)))
