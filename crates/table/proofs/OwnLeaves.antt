-- Each leaf row of a table is one of those that its segment's row names (T2, T3): it stands at the segment's first leaf or behind it, and before
-- the row behind the segment's last.
-- Assumes nothing.
use mathlib.Core.List.{List, [], ◌∷◌, ◌++◌}
use mathlib.Core.Logic.{◌⊎◌, inl, inr}
use mathlib.Core.Path.{◌≡◌, sym, ap, ◌∙◌}
use Prim.Native.Nat.{ℕ, suc, ◌+◌, ◌-◌, ◌≤◌, ◌<◌}
use native.Mathlib.Omega.{arith}
use lib.ListN.{length, take, get_or, length-append, get_or-append}
use lib.Seq.{get_or-append-add}
use Rattle.laws.specs.Lists.{concat}
use Rattle.laws.specs.Every.{All}
use Rattle.laws.proofs.Cases.{less_or_not}
use Rattle.laws.proofs.Every.{all_at}
use Rattle.laws.proofs.Tables.{get_or_values_zero}
use Rattle.form.specs.declared.separators.Separators.{Separators}
use Rattle.table.specs.Leaves.{Leaf}
use Rattle.table.specs.Rows.{Table, first_in, count_in, place_in, all_leaves, table_of}
use Rattle.table.specs.inner.Back.{leaf_at, leaves_of}
use Rattle.table.specs.inner.BySegment.{segment_of}
use Rattle.table.proofs.BySegment.{InSegment, Groups, done, group, message-grouped, length-message_leaves}
use Rattle.table.proofs.LeafRows.{leaves_of-table}
use Rattle.table.proofs.SegmentColumns.{table-rows}

-- the leaf past the end
abbrev no_leaf : Leaf
no_leaf = record { place = []; text = [] }

-- where leaf i of groups of leaves stands, the first group in segment n: in which group, counted from 0, and that it is one of its leaves
record InGroup (n : ℕ) (groups : List (List Leaf)) (i : ℕ) : Type 0 where
  pub which : ℕ
  pub among : which < length groups
  pub segment : segment_of (get_or (concat groups) i no_leaf) ≡ n + which
  pub from : length (concat (take which groups)) ≤ i
  pub to : i < length (concat (take which groups)) + length (get_or groups which [])

-- in the first group, or in one behind it
stands-first : {n : ℕ} (ls : List Leaf) {groups : List (List Leaf)} {i : ℕ} → All (InSegment n) ls → i < length ls → InGroup n (ls ∷ groups) i
unfolding concat
stands-first ls {groups} {i} w h =
    record {
      which = 0;
      among = omega arith;
      segment = ap segment_of (get_or-append ls (concat groups) no_leaf i h) ∙ all_at i no_leaf w h ∙ omega arith;
      from = omega arith;
      to = omega (arith, h);
    }

stands-later : {n : ℕ} (ls : List Leaf) {groups : List (List Leaf)} {i : ℕ} → length ls ≤ i → InGroup (suc n) groups (i - length ls)
    → InGroup n (ls ∷ groups) i
unfolding concat
stands-later ls {groups} {i} h w =
    record {
      which = suc w.which;
      among = omega (arith, w.among);
      segment =
          ap (λ (k : ℕ). segment_of (get_or (ls ++ concat groups) k no_leaf)) (let e : i ≡ length ls + (i - length ls) = omega (arith, h) in e)
          ∙ ap segment_of (get_or-append-add ls (concat groups) (i - length ls) no_leaf)
          ∙ w.segment
          ∙ omega arith;
      from = omega (arith, h, w.from, length-append ls (concat (take w.which groups)));
      to = omega (arith, h, w.to, length-append ls (concat (take w.which groups)));
    }

stands : {n : ℕ} {groups : List (List Leaf)} → Groups n groups → (i : ℕ) → i < length (concat groups) → InGroup n groups i
unfolding concat
stands {n} done i h = absurd (omega (arith, h))
stands {n} (group {l = l} {ls = ls} {groups = groups} w v) i h = by (less_or_not i (length (l ∷ ls))) (stands v (i - length (l ∷ ls)))
  where
    by : (i < length (l ∷ ls)) ⊎ (length (l ∷ ls) ≤ i) → (i - length (l ∷ ls) < length (concat groups) → InGroup (suc n) groups (i - length (l ∷ ls)))
        → InGroup n ((l ∷ ls) ∷ groups) i
    by (inl early) later = stands-first (l ∷ ls) w early
    by (inr late) later = stands-later (l ∷ ls) late (later (omega (arith, h, late, length-append (l ∷ ls) (concat groups))))

-- leaf row i, counted from 0, is one of those that segment row s, counted from 1, names: `row` is that row's number from 0
pub record Named (t : Table) (s i : ℕ) : Type 0 where
  pub row : ℕ
  pub number : s ≡ suc row
  pub counts : row < t.card.segments
  pub begins : 1 ≤ first_in t.segment_rows row
  pub from : first_in t.segment_rows row ≤ suc i
  pub to : suc i < first_in t.segment_rows row + count_in t.segment_rows row

module _ (levels : ℕ → ℕ → ℕ) (ps : Separators) (segs : List (List ℕ)) where
  abbrev here : Table
  here = table_of levels ps segs

  -- the place of a row is that of its leaf
  place_of : (i : ℕ) → i < length (all_leaves ps segs) → place_in here.leaf_rows i ≡ (get_or (all_leaves ps segs) i no_leaf).place
  unfolding table_of leaves_of leaf_at
  place_of i h =
      ap (λ (l : Leaf). l.place)
      (sym (get_or_values_zero (leaf_at here.leaf_rows here.text) (length (all_leaves ps segs)) i no_leaf h)
      ∙ ap (λ (ls : List Leaf). get_or ls i no_leaf) (leaves_of-table levels ps segs))

  pub own_leaf : (i : ℕ) → i < here.card.leaves → Named here (get_or (place_in here.leaf_rows i) 0 0) i
  unfolding table_of all_leaves segment_of
  own_leaf i h =
      let w = stands (message-grouped ps segs) i h in
      let j = w.which in
      let row = table-rows levels ps segs j (omega (arith, w.among, length-message_leaves ps segs)) in
      record {
        row = j;
        number = ap (λ (p : List ℕ). get_or p 0 0) (place_of i h) ∙ w.segment ∙ omega arith;
        counts = omega (arith, w.among, length-message_leaves ps segs);
        begins = omega (arith, row.first_is);
        from = omega (arith, row.first_is, w.from);
        to = omega (arith, row.first_is, row.count_is, w.to);
      }
