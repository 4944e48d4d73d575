-- Leaf texts lie end to end (T4) exactly where each row starts where the one before it ends and
-- the last ends with the text.
-- Assumes nothing.
use mathlib.Core.Bool.{true}
use mathlib.Core.List.{List, ◌∷◌, ◌++◌, head-eq_of_cons-eq, tail-eq_of_cons-eq}
use mathlib.Core.Logic.{◌↔◌}
use mathlib.Core.Path.{◌≡◌, sym, ap, ap₂, ◌∙◌}
use Prim.Native.Nat.{ℕ, zero, suc, ◌+◌, ◌-◌, ◌*◌, ◌≤◌, ◌<◌}
use native.Mathlib.Omega.{arith}
use lib.Dec.{eqb}
use lib.ListN.{length, take, drop, get_or, length-append, length-drop, take-append-drop, drop_of_length-le}
use lib.Seq.{drop-drop, drop_at, length-take-le}
use borrow.Author.Tests.{eqb-true, eq-eqb}
use Rattle.laws.specs.Tables.{values}
use Rattle.laws.proofs.Parts.{left_cons}
use Rattle.laws.proofs.Tests.{and_first, and_second, and_both}
use Rattle.table.specs.Leaves.{Leaf}
use Rattle.table.specs.Rows.{leaf_row_size, leaf_rows_from, text_of, place_in, start_in, length_in}
use Rattle.table.specs.inner.Back.{leaf_at}
use Rattle.table.specs.inner.RowTests.{end_to_end}

-- the step laws of the test
module _ (rows : List ℕ) (finish i n start : ℕ) where
  pub ends-start : end_to_end rows finish i (suc n) start ≡ true → start_in rows i ≡ start
  unfolding end_to_end
  ends-start h = eqb-true (start_in rows i) start (and_first (eqb (start_in rows i) start) (end_to_end rows finish (suc i) n (start + length_in rows i)) h)

  pub ends-later : end_to_end rows finish i (suc n) start ≡ true → end_to_end rows finish (suc i) n (start + length_in rows i) ≡ true
  unfolding end_to_end
  ends-later h = and_second (eqb (start_in rows i) start) (end_to_end rows finish (suc i) n (start + length_in rows i)) h

  pub ends_more : start_in rows i ≡ start → end_to_end rows finish (suc i) n (start + length_in rows i) ≡ true → end_to_end rows finish i (suc n) start ≡ true
  unfolding end_to_end
  ends_more e h = and_both (eq-eqb (start_in rows i) start e) h

pub ends_last : (rows : List ℕ) (finish i start : ℕ) → (end_to_end rows finish i 0 start ≡ true) ↔ (start ≡ finish)
unfolding end_to_end
ends_last rows finish i start = (eqb-true start finish, eq-eqb start finish)

-- no start passes the finish
pub ends-within : (rows : List ℕ) (finish i n start : ℕ) → end_to_end rows finish i n start ≡ true → start ≤ finish
ends-within rows finish i zero start h = omega (arith, (ends_last rows finish i start).0 h)
ends-within rows finish i (suc n) start h =
    omega (
      arith,
      ends-within rows finish (suc i) n (start + length_in rows i) (ends-later rows finish i n start h),
    )

-- the starts of rows that lie end to end
module _ (rows : List ℕ) (finish count : ℕ) (h : end_to_end rows finish 0 count 0 ≡ true) where
  EndsAt : ℕ → ℕ → Type 0
  EndsAt k start = end_to_end rows finish k (count - k) start ≡ true

  more-ends : (k start : ℕ) → k < count → EndsAt k start → end_to_end rows finish k (suc (count - suc k)) start ≡ true
  unfolding EndsAt
  more-ends k start l e = ap (λ (n : ℕ). end_to_end rows finish k n start) (let d : suc (count - suc k) ≡ count - k = omega arith in d) ∙ e

  -- each ends where the next one starts, or the text ends
  ended_at : (k : ℕ) → k < count → EndsAt (suc k) (start_in rows k + length_in rows k)
  unfolding EndsAt
  ended_at zero l =
      let first = more-ends 0 0 l (ap (λ (n : ℕ). end_to_end rows finish 0 n 0) (let d : count - 0 ≡ count = omega arith in d) ∙ h) in
      ap (λ (n : ℕ). end_to_end rows finish 1 (count - 1) (n + length_in rows 0)) (ends-start rows finish 0 (count - 1) 0 first)
      ∙ ends-later rows finish 0 (count - 1) 0 first
  ended_at (suc k) l =
      let here = more-ends (suc k) (start_in rows k + length_in rows k) l (ended_at k (omega arith)) in
      ap (λ (n : ℕ). end_to_end rows finish (suc (suc k)) (count - suc (suc k)) (n + length_in rows (suc k)))
      (ends-start rows finish (suc k) (count - suc (suc k)) (start_in rows k + length_in rows k) here)
      ∙ ends-later rows finish (suc k) (count - suc (suc k)) (start_in rows k + length_in rows k) here

  pub ended-within : (k : ℕ) → k < count → start_in rows k + length_in rows k ≤ finish
  unfolding EndsAt
  ended-within k l = ends-within rows finish (suc k) (count - suc k) (start_in rows k + length_in rows k) (ended_at k l)

  pub ended-next : (k : ℕ) → suc k < count → start_in rows (suc k) ≡ start_in rows k + length_in rows k
  ended-next k l =
      ends-start rows finish (suc k) (count - suc (suc k)) (start_in rows k + length_in rows k)
      (more-ends (suc k) (start_in rows k + length_in rows k) l (ended_at k (omega arith)))

  pub ended-first : 0 < count → start_in rows 0 ≡ 0
  unfolding EndsAt
  ended-first l = ends-start rows finish 0 (count - 1) 0 (more-ends 0 0 l (ap (λ (n : ℕ). end_to_end rows finish 0 n 0) (omega arith) ∙ h))

  -- so the rows from one on lie end to end from its start on
  pub ended-from : (k : ℕ) → suc k < count → end_to_end rows finish (suc k) (count - suc k) (start_in rows (suc k)) ≡ true
  unfolding EndsAt
  ended-from k l = ap (end_to_end rows finish (suc k) (count - suc k)) (ended-next k l) ∙ ended_at k (omega arith)

module _ (rows text : List ℕ) where
  -- a row, and the rows after it
  row_cons : (i : ℕ) → suc i * leaf_row_size ≤ length rows
      → drop (i * leaf_row_size) rows
      ≡ place_in rows i ++ (start_in rows i ∷ length_in rows i ∷ drop (suc i * leaf_row_size) rows)
  row_cons i long =
      sym (take-append-drop 5 (drop (i * leaf_row_size) rows))
      ∙ ap (λ (r : List ℕ). place_in rows i ++ r)
      (drop-drop 5 (i * leaf_row_size) rows
      ∙ left_cons rows (i * leaf_row_size + 5) 0 (omega arith)
      ∙ ap (λ (r : List ℕ). start_in rows i ∷ r)
      (left_cons rows (i * leaf_row_size + 5 + 1) 0 (omega arith)
      ∙ ap₂ (λ (j k : ℕ). get_or rows j 0 ∷ drop k rows) sixth after))
    where
      sixth : i * leaf_row_size + 5 + 1 ≡ i * leaf_row_size + 6
      sixth = omega arith

      after : i * leaf_row_size + 5 + 1 + 1 ≡ suc i * leaf_row_size
      after = omega arith

  place-five : (i : ℕ) → suc i * leaf_row_size ≤ length rows → length (place_in rows i) ≡ 5
  place-five i long = length-take-le 5 (drop (i * leaf_row_size) rows) (omega (arith, length-drop (i * leaf_row_size) rows))

  -- n rows from row i on, whose texts lie from `start` on
  pub record Laid (i n start : ℕ) : Type 0 where
    pub rows_are : drop (i * leaf_row_size) rows ≡ leaf_rows_from start (values (leaf_at rows text) i n)
    pub text_is : drop start text ≡ text_of (values (leaf_at rows text) i n)

  -- one row more in front of them
  first-laid : (i n start : ℕ) → suc i * leaf_row_size ≤ length rows → start_in rows i ≡ start
      → start + length_in rows i ≤ length text
      → Laid (suc i) n (start + length_in rows i) → Laid i (suc n) start
  unfolding values leaf_rows_from text_of leaf_at
  first-laid i n start long at fits rest =
      record {
        rows_are =
            row_cons i long
            ∙ ap₂ (λ (a : ℕ) (r : List ℕ). place_in rows i ++ (a ∷ r)) at
            (ap₂ (λ (k : ℕ) (r : List ℕ). k ∷ r) (sym size)
            (rest.rows_are ∙ ap (λ (k : ℕ). leaf_rows_from (start + k) (values (leaf_at rows text) (suc i) n)) (sym size)));
        text_is =
            sym (take-append-drop count (drop start text))
            ∙ ap₂ (λ (x y : List ℕ). x ++ y) (ap (λ (a : ℕ). take count (drop a text)) (sym at))
            (drop-drop count start text ∙ rest.text_is);
      }
    where
      count : ℕ
      count = length_in rows i

      size : length (take count (drop (start_in rows i) text)) ≡ count
      size = length-take-le count (drop (start_in rows i) text) (omega (arith, length-drop (start_in rows i) text))

  -- the first of them: it starts there, its length is that of its text, and the others are laid behind it
  pub record FirstLaid (i n start : ℕ) : Type 0 where
    pub starts : start_in rows i ≡ start
    pub size : length (leaf_at rows text i).text ≡ length_in rows i
    pub fits : start ≤ length text → start + length_in rows i ≤ length text
    pub others : Laid (suc i) n (start + length_in rows i)

  laid-first : (i n start : ℕ) → suc i * leaf_row_size ≤ length rows → Laid i (suc n) start → FirstLaid i n start
  unfolding values leaf_rows_from text_of leaf_at
  laid-first i n start long w = made (head-eq_of_cons-eq row) (sym (head-eq_of_cons-eq (tail-eq_of_cons-eq row))) (tail-eq_of_cons-eq (tail-eq_of_cons-eq row))
    where
      own : List ℕ
      own = (leaf_at rows text i).text

      rest : List Leaf
      rest = values (leaf_at rows text) (suc i) n

      row : start_in rows i ∷ length_in rows i ∷ drop (suc i * leaf_row_size) rows
          ≡ start ∷ length own ∷ leaf_rows_from (start + length own) rest
      row =
          sym (drop_at (place_in rows i) (start_in rows i ∷ length_in rows i ∷ drop (suc i * leaf_row_size) rows) 5 (place-five i long))
          ∙ ap (drop 5) (sym (row_cons i long) ∙ w.rows_are)
          ∙ drop_at (place_in rows i) (start ∷ length own ∷ leaf_rows_from (start + length own) rest) 5 (place-five i long)

      made : start_in rows i ≡ start → length own ≡ length_in rows i
          → drop (suc i * leaf_row_size) rows ≡ leaf_rows_from (start + length own) rest → FirstLaid i n start
      made at size later =
          record {
            starts = at;
            size = size;
            fits = λ within. omega (arith, ap length w.text_is, length-append own (text_of rest), length-drop start text);
            others =
                record {
                  rows_are = later ∙ ap (λ (k : ℕ). leaf_rows_from (start + k) rest) size;
                  text_is =
                      sym (drop-drop (length_in rows i) start text)
                      ∙ ap (drop (length_in rows i)) w.text_is
                      ∙ drop_at own (text_of rest) (length_in rows i) size;
                };
          }

  -- rows that pass the test
  ends-laid : (i n start : ℕ) → length rows ≡ (i + n) * leaf_row_size → end_to_end rows (length text) i n start ≡ true → Laid i n start
  unfolding values leaf_rows_from text_of
  ends-laid i zero start long h =
      record {
        rows_are = drop_of_length-le rows {i = i * leaf_row_size} (omega arith);
        text_is = drop_of_length-le text {i = start} (omega (arith, (ends_last rows (length text) i start).0 h));
      }
  ends-laid i (suc n) start long h =
      let later = ends-later rows (length text) i n start h in
      first-laid i n start (omega arith) (ends-start rows (length text) i n start h)
      (ends-within rows (length text) (suc i) n (start + length_in rows i) later)
      (ends-laid (suc i) n (start + length_in rows i) (omega arith) later)

  -- and rows that are laid so pass it
  laid-ends : (i n start : ℕ) → length rows ≡ (i + n) * leaf_row_size → start ≤ length text → Laid i n start
      → end_to_end rows (length text) i n start ≡ true
  unfolding values text_of
  laid-ends i zero start long within w =
      (ends_last rows (length text) i start).1 (omega (arith, ap length w.text_is, length-drop start text))
  laid-ends i (suc n) start long within w =
      let v = laid-first i n start (omega arith) w in
      ends_more rows (length text) i n start v.starts
      (laid-ends (suc i) n (start + length_in rows i) (omega arith) (v.fits within) v.others)

  -- so n rows are those of their leaves, and the text is theirs, exactly where they lie end to end
  pub end_to_end_lem : (n : ℕ) → length rows ≡ n * leaf_row_size
      → (end_to_end rows (length text) 0 n 0 ≡ true)
      ↔ ((rows ≡ leaf_rows_from 0 (values (leaf_at rows text) 0 n)) × (text ≡ text_of (values (leaf_at rows text) 0 n)))
  end_to_end_lem n long = (
    λ h. let w = ends-laid 0 n 0 (omega arith) h in (w.rows_are, w.text_is),
    λ w. laid-ends 0 n 0 (omega arith) (omega arith) (record { rows_are = w.0; text_is = w.1 }),
  )
