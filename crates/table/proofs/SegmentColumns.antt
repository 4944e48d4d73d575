-- The columns of the segment rows (T2): each row of a table has its segment's kind, its owner (O2, O3), the number of its first leaf and its
-- leaf count.
-- Assumes nothing.
use mathlib.Core.List.{List, [], ◌∷◌, ◌++◌, reverse}
use mathlib.Core.Path.{◌≡◌, refl, sym, ap, ◌∙◌}
use Prim.Native.Nat.{ℕ, zero, suc, ◌+◌, ◌*◌, ◌≤◌, ◌<◌}
use native.Mathlib.Nat.{le_of_suc-le-suc, not-suc-le-zero}
use native.Mathlib.Omega.{arith}
use lib.ListN.{length, take, get_or, length-append}
use lib.Seq.{sets, get_or-append-add, get_or-take}
use Rattle.laws.specs.Lists.{concat}
use Rattle.laws.proofs.Lists.{get_d_map}
use Rattle.form.specs.declared.separators.Separators.{Separators}
use Rattle.order.specs.Owners.{owner, owners}
use Rattle.order.proofs.Owner.{owners_at, length-owners}
use Rattle.table.specs.Lent.{Lent, counted}
use Rattle.table.specs.Leaves.{Leaf, kind_of_segment, message_leaves}
use Rattle.table.specs.Rows.{segment_row_size, Next, none_before, next_after, row_next, segment_rows_from, RowIs, kinds_of, context_in, table_of, RowOf}
use Rattle.table.proofs.RowsGrowing.{length-kinds, length-message_leaves, length-segment_rows}
use Rattle.table.proofs.Room.{front_at}

-- past one row
past_row : (row rows : List ℕ) → length row ≡ segment_row_size → (m n : ℕ) → m ≡ segment_row_size + n → get_or (row ++ rows) m 0 ≡ get_or rows n 0
past_row row rows size m n e =
    ap (λ (i : ℕ). get_or (row ++ rows) i 0) (let at : m ≡ length row + n = omega arith in at) ∙ get_or-append-add row rows n 0

-- the row of the columns at i
pub rows_at : (n : Next) (ks os : List ℕ) (ls : List (List Leaf)) (i : ℕ) → length os ≡ length ks → length ls ≡ length ks → i < length ks
    → RowIs (segment_rows_from n ks os ls) i (get_or ks i 0) (get_or os i 0) (n.first_leaf + length (concat (take i ls))) (length (get_or ls i []))
unfolding segment_rows_from concat
rows_at n [] os ls i eo el h = absurd (not-suc-le-zero h)
rows_at n (k ∷ ks) [] ls i eo el h = absurd (omega arith)
rows_at n (k ∷ ks) (o ∷ os) [] i eo el h = absurd (omega arith)
rows_at n (k ∷ ks) (o ∷ os) (l ∷ ls) zero eo el h = record { kind_is = refl; owner_is = refl; first_is = omega arith; count_is = refl }
rows_at n (k ∷ ks) (o ∷ os) (l ∷ ls) (suc i) eo el h =
    let w = rows_at (next_after n l) ks os ls i (omega arith) (omega arith) (le_of_suc-le-suc h) in
    let past = past_row (row_next n k o l) (segment_rows_from (next_after n l) ks os ls) refl in
    record {
      kind_is = past (suc i * segment_row_size) (i * segment_row_size) (omega arith) ∙ w.kind_is;
      owner_is = past (suc i * segment_row_size + 1) (i * segment_row_size + 1) (omega arith) ∙ w.owner_is;
      first_is =
          past (suc i * segment_row_size + 2) (i * segment_row_size + 2) (omega arith) ∙ w.first_is
          ∙ omega (arith, length-append l (concat (take i ls)));
      count_is = past (suc i * segment_row_size + 3) (i * segment_row_size + 3) (omega arith) ∙ w.count_is;
    }

module _ (levels : ℕ → ℕ → ℕ) (ps : Separators) (segs : List (List ℕ)) where
  owners-count : length (owners (levels (context_in ps segs)) (kinds_of ps segs)) ≡ length (kinds_of ps segs)
  owners-count = length-owners (levels (context_in ps segs)) (kinds_of ps segs)

  groups_count : length (message_leaves ps segs) ≡ length (kinds_of ps segs)
  groups_count = length-message_leaves ps segs ∙ sym (length-kinds ps segs)

  kind_at : (i : ℕ) → i < length segs → get_or (kinds_of ps segs) i 0 ≡ kind_of_segment ps (get_or segs i [])
  unfolding kinds_of
  kind_at i h = get_d_map (kind_of_segment ps) segs i [] 0 h

  pub table-rows : (i : ℕ) → i < length segs → RowOf levels ps segs (table_of levels ps segs).segment_rows i
  unfolding table_of
  table-rows i h =
      let within : i < length (kinds_of ps segs) = omega (arith, length-kinds ps segs) in
      let lv = levels (context_in ps segs) in
      let w = rows_at none_before (kinds_of ps segs) (owners lv (kinds_of ps segs)) (message_leaves ps segs) i owners-count groups_count within in
      record {
        kind_is = w.kind_is ∙ kind_at i h;
        owner_is = w.owner_is ∙ owners_at lv (kinds_of ps segs) i within ∙ ap (owner lv (reverse (take i (kinds_of ps segs)))) (kind_at i h);
        first_is = w.first_is;
        count_is = w.count_is;
      }

  pub length-table-rows : length (table_of levels ps segs).segment_rows ≡ length segs * segment_row_size
  unfolding table_of
  length-table-rows =
      length-segment_rows (kinds_of ps segs) (owners (levels (context_in ps segs)) (kinds_of ps segs)) (message_leaves ps segs) owners-count groups_count
      ∙ ap (λ (n : ℕ). n * segment_row_size) (length-kinds ps segs)

-- a row of what is stored at the front of a buffer is a row of the buffer
pub front_row : (buffer front : List ℕ) (i : ℕ) {kind owner first leaves : ℕ} → length front ≤ length buffer → suc i * segment_row_size ≤ length front
    → RowIs front i kind owner first leaves → RowIs (sets buffer 0 front) i kind owner first leaves
front_row buffer front i fits h w =
    record {
      kind_is = front_at buffer front (i * segment_row_size) fits (omega arith) ∙ w.kind_is;
      owner_is = front_at buffer front (i * segment_row_size + 1) fits (omega arith) ∙ w.owner_is;
      first_is = front_at buffer front (i * segment_row_size + 2) fits (omega arith) ∙ w.first_is;
      count_is = front_at buffer front (i * segment_row_size + 3) fits (omega arith) ∙ w.count_is;
    }

-- a counted row is a row of its buffer
pub row-taken : (t : Lent) (i : ℕ) → i < t.card.segments → {kind owner first leaves : ℕ} → RowIs (counted t).segment_rows i kind owner first leaves
    → RowIs t.segment_rows i kind owner first leaves
unfolding counted
row-taken t i h w =
    let most = t.card.segments * segment_row_size in
    record {
      kind_is = sym (get_or-take most t.segment_rows (i * segment_row_size) 0 (omega arith)) ∙ w.kind_is;
      owner_is = sym (get_or-take most t.segment_rows (i * segment_row_size + 1) 0 (omega arith)) ∙ w.owner_is;
      first_is = sym (get_or-take most t.segment_rows (i * segment_row_size + 2) 0 (omega arith)) ∙ w.first_is;
      count_is = sym (get_or-take most t.segment_rows (i * segment_row_size + 3) 0 (omega arith)) ∙ w.count_is;
    }
