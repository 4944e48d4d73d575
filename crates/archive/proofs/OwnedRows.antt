-- Segment rows with other owners: row by row, as a loop puts them; and of the rows of segments, which are then those of the same segments.
-- Assumes nothing.
use mathlib.Core.List.{List, [], ◌∷◌, ◌++◌}
use mathlib.Core.Path.{◌≡◌, refl, sym, ap, ap₂, ◌∙◌, subst}
use Prim.Native.Nat.{ℕ, ◌+◌, ◌*◌, ◌<◌, ◌≤◌}
use native.Mathlib.Omega.{arith}
use lib.ListN.{length, get_or, drop, drop_of_length-le}
use lib.Seq.{sets, length-sets, get_or-drop, drop-drop}
use Rattle.laws.proofs.Parts.{left_cons}
use Rattle.laws.proofs.Stores.{sets-append}
use Rattle.order.specs.inner.Levels.{top_level}
use Rattle.order.specs.inner.Owning.{Owned, no_rows}
use Rattle.order.specs.Owners.{owners}
use Rattle.order.proofs.Owner.{RowsKnown, row_read, length-owners, rows_begin}
use Rattle.table.specs.Leaves.{Leaf}
use Rattle.table.specs.Rows.{Next, segment_row_size, segment_row, segment_rows_from, kind_in, first_in, count_in}
use Rattle.write.specs.inner.Tests.{kind_column}
use Rattle.write.proofs.Columns.{length-kinds, kind_at}
use Rattle.archive.specs.inner.OwnedRows.{rows_owned}

-- what is left from row i on begins with that row
module _ (rows : List ℕ) (i : ℕ) where
  column : (k : ℕ) → get_or (drop (i * segment_row_size) rows) k 0 ≡ get_or rows (i * segment_row_size + k) 0
  column k = get_or-drop (i * segment_row_size) rows k 0

  first-column : get_or (drop (i * segment_row_size) rows) 0 0 ≡ kind_in rows i
  first-column = column 0 ∙ ap (λ (n : ℕ). get_or rows n 0) (let e : i * segment_row_size + 0 ≡ i * segment_row_size = omega arith in e)

  rows-after : drop segment_row_size (drop (i * segment_row_size) rows) ≡ drop ((i + 1) * segment_row_size) rows
  rows-after =
      drop-drop segment_row_size (i * segment_row_size) rows
      ∙ ap (λ (n : ℕ). drop n rows) (let e : i * segment_row_size + segment_row_size ≡ (i + 1) * segment_row_size = omega arith in e)

  pub rows_next : (os : List ℕ) → i < length os
      → rows_owned (drop i os) (drop (i * segment_row_size) rows)
      ≡ segment_row (kind_in rows i) (get_or os i 0) (first_in rows i) (count_in rows i) ++ rows_owned (drop (i + 1) os) (drop ((i + 1) * segment_row_size) rows)
  unfolding rows_owned
  rows_next os h =
      let from = drop (i * segment_row_size) rows in
      let o = get_or os i 0 in
      ap (λ (l : List ℕ). rows_owned l from) (left_cons os i 0 h)
      ∙ ap₂ (λ (k : ℕ) (rest : List ℕ). k ∷ o ∷ first_in from 0 ∷ count_in from 0 ∷ rows_owned (drop (i + 1) os) rest) first-column rows-after
      ∙ ap₂ (λ (f c : ℕ). kind_in rows i ∷ o ∷ f ∷ c ∷ rows_owned (drop (i + 1) os) (drop ((i + 1) * segment_row_size) rows)) (column 2) (column 3)

-- the loop: the rows from i on, put into the buffer as it stands, give what all of them give
pub record PuttingRows (lv : ℕ → ℕ) (rows : List ℕ) (n : ℕ) (buffer stands near : List ℕ) (i : ℕ) : Type 0 where
  pub within : i ≤ n
  pub long : length stands ≡ length buffer
  pub known : RowsKnown lv (kind_column rows n) i near
  pub rest : sets stands (i * segment_row_size) (rows_owned (drop i (owners lv (kind_column rows n))) (drop (i * segment_row_size) rows))
      ≡ sets buffer 0 (rows_owned (owners lv (kind_column rows n)) rows)

pub rows-begun : (lv : ℕ → ℕ) (rows : List ℕ) (n : ℕ) (buffer : List ℕ) {near : List ℕ} → near ≡ no_rows → PuttingRows lv rows n buffer buffer near 0
rows-begun lv rows n buffer e =
    record {
      within = omega arith;
      long = refl;
      known = subst (RowsKnown lv (kind_column rows n) 0) (sym e) (rows_begin lv (kind_column rows n));
      rest = refl;
    }

module _ {lv : ℕ → ℕ} {rows : List ℕ} {n : ℕ} {buffer stands near : List ℕ} {i : ℕ} (w : PuttingRows lv rows n buffer stands near i) where
  abbrev kinds : List ℕ
  kinds = kind_column rows n

  -- one turn, by what `owner_of` hands back and `put_row` puts
  pub rows_on : ((j : ℕ) → lv j < top_level) → i < n → {after : List ℕ} {row k l o : ℕ} → row ≡ i + 1 → k ≡ kind_in rows i → l ≡ lv k
      → Owned near after row k l o → {same first count : ℕ} → same ≡ kind_in rows i → first ≡ first_in rows i → count ≡ count_in rows i → {stands' : List ℕ}
      → stands' ≡ sets stands (i * segment_row_size) (segment_row same o first count) → PuttingRows lv rows n buffer stands' after (i + 1)
  rows_on few h {after} {row} {k} {l} {o} e f g v {same} {first} {count} is starts counts {stands'} put =
      let inside : i < length kinds = omega (arith, length-kinds rows n) in
      let kind : k ≡ get_or kinds i 0 = f ∙ sym (kind_at rows n i h) in
      let read = row_read lv few w.known inside e (g ∙ ap lv kind) (subst (λ (j : ℕ). Owned near after row j l o) kind v) in
      let at = i * segment_row_size in
      let here = segment_row (kind_in rows i) (get_or (owners lv kinds) i 0) (first_in rows i) (count_in rows i) in
      let left = rows_owned (drop (i + 1) (owners lv kinds)) (drop ((i + 1) * segment_row_size) rows) in
      let stored : stands' ≡ sets stands at here =
      put
      ∙ ap₂ (λ (a b : ℕ). sets stands at (segment_row a b first count)) is read.0
      ∙ ap₂ (λ (a b : ℕ). sets stands at (segment_row (kind_in rows i) (get_or (owners lv kinds) i 0) a b)) starts counts in
      record {
        within = omega arith;
        long = ap length stored ∙ length-sets stands at here ∙ w.long;
        known = read.1;
        rest =
            ap₂ (λ (s : List ℕ) (m : ℕ). sets s m left) stored (let q : (i + 1) * segment_row_size ≡ at + 4 = omega arith in q)
            ∙ sets-append stands at here left
            ∙ ap (sets stands at) (sym (rows_next rows i (owners lv kinds) (omega (arith, length-owners lv kinds, length-kinds rows n))))
            ∙ w.rest;
      }

  pub rows-done : n ≤ i → stands ≡ sets buffer 0 (rows_owned (owners lv kinds) rows)
  unfolding rows_owned
  rows-done past =
      ap (λ (os : List ℕ). sets stands (i * segment_row_size) (rows_owned os (drop (i * segment_row_size) rows)))
      (sym (drop_of_length-le (owners lv kinds) {i = i} (omega (arith, length-owners lv kinds, length-kinds rows n))))
      ∙ w.rest

-- rows of segments, with other owners for the same segments, are the rows that these owners make
pub rows_reowned : (first : Next) (kinds formers os : List ℕ) (leaves : List (List Leaf))
    → length formers ≡ length kinds → length os ≡ length kinds → length leaves ≡ length kinds
    → rows_owned os (segment_rows_from first kinds formers leaves) ≡ segment_rows_from first kinds os leaves
unfolding rows_owned segment_rows_from
rows_reowned first [] formers [] leaves e f g = refl
rows_reowned first [] formers (o ∷ os) leaves e f g = absurd (omega (arith, f))
rows_reowned first (k ∷ kinds) [] os leaves e f g = absurd (omega (arith, e))
rows_reowned first (k ∷ kinds) (p ∷ formers) [] leaves e f g = absurd (omega (arith, f))
rows_reowned first (k ∷ kinds) (p ∷ formers) (o ∷ os) [] e f g = absurd (omega (arith, g))
rows_reowned first (k ∷ kinds) (p ∷ formers) (o ∷ os) (l ∷ leaves) e f g =
    ap (λ (rest : List ℕ). k ∷ o ∷ first.first_leaf ∷ length l ∷ rest)
    (rows_reowned (record { first_leaf = first.first_leaf + length l }) kinds formers os leaves (omega (arith, e)) (omega (arith, f)) (omega (arith, g)))
