-- The leaves of field 10.6 of a segment row (D6): by two columns of their rows, and all of them among the rows that the segment row names.
-- Assumes nothing.
use Rattle.std.specs.Prelude.{Option, Some, None}
use mathlib.Core.Bool.{Bool, true, false, ◌&&◌}
use mathlib.Core.List.{List, [], ◌∷◌}
use mathlib.Core.Path.{◌≡◌, sym, ap, ◌∙◌}
use Prim.Native.Nat.{ℕ, suc, ◌+◌, ◌*◌, ◌-◌, ◌≤◌, ◌<◌}
use native.Mathlib.Numerals.{add-one}
use native.Mathlib.Omega.{arith}
use borrow.Author.Tests.{eqb-true, leb-true, ltb-true, eq-eqb, ne_eqb}
use lib.Dec.{leb, ltb, eqb}
use lib.ListN.{length, get_or, drop}
use lib.Seq.{get_or-take, get_or-drop}
use Rattle.laws.specs.Tables.{passing}
use Rattle.laws.proofs.Passing.{passing-behind, passing-before, FirstPassed}
use Rattle.laws.proofs.Tests.{Tested, passed, failed, tested, and_first, and_second, and_both, and_fails_first, and_fails_second}
use Rattle.table.specs.Lent.{Lent}
use Rattle.table.specs.Rows.{leaf_row_size, first_in, count_in, place_in}
use Rattle.table.proofs.Lent.{leaves-within, text-within}
use Rattle.look.specs.Looking.{in_run, is_named}
use Rattle.tested.specs.inner.Searchable.{Searchable}
use Rattle.value.specs.Refusals.{not_a_number}
use Rattle.value.specs.Numerals.{says_none, numeral_of}
use Rattle.value.specs.Results.{value_field, of_field, leaf_text_in}
use Rattle.value.specs.inner.Seeking.{first_passing, leaf_says, result_of, FieldRows, LeafRow}
use Rattle.value.proofs.FirstPassing.{none_passing, first_found}

-- a leaf's segment and field stand in the first two columns of its row
module _ (rows : List ℕ) (segment field i : ℕ) where
  column : (k : ℕ) → k < 5 → get_or (place_in rows i) k 0 ≡ get_or rows (i * leaf_row_size + k) 0
  column k h = get_or-take 5 (drop (i * leaf_row_size) rows) k 0 h ∙ get_or-drop (i * leaf_row_size) rows k 0

  first-column : get_or (place_in rows i) 0 0 ≡ get_or rows (i * leaf_row_size) 0
  first-column = column 0 (omega arith) ∙ ap (λ (n : ℕ). get_or rows n 0) (omega arith)

  pub of_the_field : get_or rows (i * leaf_row_size + 1) 0 ≡ field → get_or rows (i * leaf_row_size) 0 ≡ segment → of_field rows segment field i ≡ true
  unfolding of_field
  of_the_field f s =
      and_both (eq-eqb (get_or (place_in rows i) 0 0) segment (first-column ∙ s)) (eq-eqb (get_or (place_in rows i) 1 0) field (column 1 (omega arith) ∙ f))

  pub other_field : (get_or rows (i * leaf_row_size + 1) 0 ≡ field → ⊥) → of_field rows segment field i ≡ false
  unfolding of_field
  other_field n =
      and_fails_second (eqb (get_or (place_in rows i) 0 0) segment)
      (ne_eqb (get_or (place_in rows i) 1 0) field (λ e. n (sym (column 1 (omega arith)) ∙ e)))

  pub other-segment : (get_or rows (i * leaf_row_size) 0 ≡ segment → ⊥) → of_field rows segment field i ≡ false
  unfolding of_field
  other-segment n =
      and_fails_first (eqb (get_or (place_in rows i) 1 0) field) (ne_eqb (get_or (place_in rows i) 0 0) segment (λ e. n (sym first-column ∙ e)))

  of_its_segment : of_field rows segment field i ≡ true → get_or (place_in rows i) 0 0 ≡ segment
  unfolding of_field
  of_its_segment e =
      eqb-true (get_or (place_in rows i) 0 0) segment (and_first (eqb (get_or (place_in rows i) 0 0) segment) (eqb (get_or (place_in rows i) 1 0) field) e)

-- a leaf row that segment row i, counted from 0, names lies from its first leaf on, as many as it has
record InItsRun (t : Lent) (i k : ℕ) : Type 0 where
  pub from : first_in t.segment_rows i ≤ suc k
  pub to : suc k < first_in t.segment_rows i + count_in t.segment_rows i

run_bounds : (first count k : ℕ) → in_run first count k ≡ true → (first ≤ suc k) × (suc k < first + count)
run_bounds first count k e = (
  leb-true first (suc k) (and_second (leb 1 first) (leb first (suc k)) (and_first (leb 1 first && leb first (suc k)) (ltb (suc k) (first + count)) e)),
  ltb-true (suc k) (first + count) (and_second (leb 1 first && leb first (suc k)) (ltb (suc k) (first + count)) e),
)

named-run : (t : Lent) (i k : ℕ) → is_named t (suc i) k ≡ true → InItsRun t i k
unfolding is_named
named-run t i k e =
    let named : ℕ → Bool = λ n. in_run (first_in t.segment_rows n) (count_in t.segment_rows n) k in
    let run = and_second (leb 1 (suc i) && leb (suc i) t.card.segments) (named (suc i - 1)) e in
    let bounds = run_bounds (first_in t.segment_rows i) (count_in t.segment_rows i) k (ap named (let q : i ≡ suc i - 1 = omega arith in q) ∙ run) in
    record { from = bounds.0; to = bounds.1 }

-- where the leaves of segment row i begin and end, counted from 0
abbrev leaves_from : Lent → ℕ → ℕ
leaves_from t i = first_in t.segment_rows i - 1

abbrev leaves_to : Lent → ℕ → ℕ
leaves_to t i = leaves_from t i + count_in t.segment_rows i

module _ (most : ℕ) (t : Lent) (table : Searchable t) (i : ℕ) (here : i < t.card.segments) where
  abbrev value_leaf : ℕ → Bool
  value_leaf k = of_field t.leaf_rows (suc i) value_field k

  abbrev in_row : List ℕ
  in_row = passing value_leaf (leaves_from t i) (leaves_to t i - leaves_from t i)

  outside : (k : ℕ) → k < t.card.leaves → (InItsRun t i k → ⊥) → value_leaf k ≡ false
  outside k h out = by (tested (value_leaf k))
    where
      by : Tested (value_leaf k) → value_leaf k ≡ false
      by (failed e) = e
      by (passed e) =
          absurd (out (named-run t i k
          (ap (λ (s : ℕ). is_named t s k) (sym (of_its_segment t.leaf_rows (suc i) value_field k e)) ∙ table.named k h)))

  -- so only those rows need be looked at
  all_in_row : passing value_leaf 0 t.card.leaves ≡ in_row
  all_in_row =
      passing-behind value_leaf (leaves_from t i) 0 (t.card.leaves - leaves_from t i) t.card.leaves (omega (arith, table.last i here))
      (λ k g h. outside k (omega (arith, h, table.last i here)) (λ w. omega (arith, h, w.from, table.first i here)))
      ∙ ap (λ (k : ℕ). passing value_leaf k (t.card.leaves - leaves_from t i)) (let e : 0 + leaves_from t i ≡ leaves_from t i = omega arith in e)
      ∙ passing-before value_leaf (leaves_to t i - leaves_from t i) (leaves_from t i) (t.card.leaves - leaves_from t i) (omega (arith, table.last i here))
      (λ k g h. outside k (omega (arith, h, table.last i here)) (λ w. omega (arith, g, w.to, table.first i here)))

  result_by : (rows : List ℕ) → in_row ≡ rows → leaf_says most t rows ≡ result_of most t i
  unfolding result_of
  result_by rows e = ap (leaf_says most t) (sym (all_in_row ∙ e))

  -- no leaf, or one with others behind it: no number
  no_leaf : in_row ≡ [] → says_none not_a_number ≡ result_of most t i
  unfolding leaf_says
  no_leaf e = result_by [] e

  more-leaves : (k j : ℕ) → FirstPassed value_leaf (leaves_from t i) (leaves_to t i) k → FirstPassed value_leaf (k + 1) (leaves_to t i) j
      → says_none not_a_number ≡ result_of most t i
  unfolding leaf_says
  more-leaves k j one other =
      result_by (k ∷ j ∷ passing value_leaf (suc j) (leaves_to t i - suc j))
      (one.rest ∙ ap (λ (n : ℕ). k ∷ passing value_leaf n (leaves_to t i - n)) (let e : suc k ≡ k + 1 = omega arith in e) ∙ ap (λ (s : List ℕ). k ∷ s) other.rest)

  -- one alone: what its text says
  only-leaf : (k : ℕ) → FirstPassed value_leaf (leaves_from t i) (leaves_to t i) k → passing value_leaf (k + 1) (leaves_to t i - (k + 1)) ≡ []
      → numeral_of most (leaf_text_in t.leaf_rows t.text k) ≡ result_of most t i
  unfolding leaf_says
  only-leaf k one none =
      result_by (k ∷ [])
      (one.rest ∙ ap (λ (n : ℕ). k ∷ passing value_leaf n (leaves_to t i - n)) (let e : suc k ≡ k + 1 = omega arith in e) ∙ ap (λ (s : List ℕ). k ∷ s) none)

  -- the same by what the searches find, from the first leaf and the leaf count that the segment row has
  module _ {first count : ℕ} (first_is : first ≡ first_in t.segment_rows i) (count_is : count ≡ count_in t.segment_rows i) where
    abbrev from : ℕ
    from = first - 1

    abbrev to : ℕ
    to = from + count

    -- what a search from a row on finds
    abbrev searched : ℕ → Option ℕ
    searched k = first_passing (of_field t.leaf_rows (i + 1) value_field) k to

    to_is : to ≡ leaves_to t i
    to_is = omega (arith, first_is, count_is)

    few : to ≤ t.card.leaves
    few = omega (arith, to_is, table.last i here)

    inside : t.card.leaves * leaf_row_size ≤ length t.leaf_rows
    inside = leaves-within t.card (length t.segment_rows) (length t.leaf_rows) (length t.text) table.within

    pub first-there : 1 ≤ first
    first-there = omega (arith, first_is, table.first i here)

    pub rows_searched : FieldRows t.leaf_rows from to
    rows_searched = record { rising = omega arith; within = omega (arith, few, inside) }

    same_search : (k : ℕ) → searched k ≡ first_passing value_leaf k (leaves_to t i)
    same_search k j = first_passing (of_field t.leaf_rows (add-one i j) value_field) k (to_is j)

    first_search : searched from ≡ first_passing value_leaf (leaves_from t i) (leaves_to t i)
    first_search = same_search from ∙ ap (λ (k : ℕ). first_passing value_leaf k (leaves_to t i)) (let e : from ≡ leaves_from t i = omega (arith, first_is) in e)

    pub none_found : None ≡ searched from → says_none not_a_number ≡ result_of most t i
    none_found e = no_leaf (none_passing value_leaf (leaves_from t i) (leaves_to t i) (e ∙ first_search))

    module _ {one : ℕ} (found : Some one ≡ searched from) where
      at_one : FirstPassed value_leaf (leaves_from t i) (leaves_to t i) one
      at_one = first_found value_leaf (omega arith) (found ∙ first_search)

      pub one-before : one < to
      one-before = omega (arith, to_is, at_one.within)

      pub rows_behind : FieldRows t.leaf_rows (one + 1) to
      rows_behind = record { rising = omega (arith, one-before); within = omega (arith, few, inside) }

      pub leaf-inside : LeafRow t.leaf_rows t.text one
      leaf-inside =
          record {
            row_within = omega (arith, one-before, few, inside);
            text-within =
                omega (
                  arith,
                  table.texts one (omega (arith, one-before, few)),
                  text-within t.card (length t.segment_rows) (length t.leaf_rows) (length t.text) table.within,
                );
          }

      pub more-found : {other : ℕ} → Some other ≡ searched (one + 1) → says_none not_a_number ≡ result_of most t i
      more-found {other} e = more-leaves one other at_one (first_found value_leaf (omega (arith, to_is, one-before)) (e ∙ same_search (one + 1)))

      pub one_found : None ≡ searched (one + 1) → numeral_of most (leaf_text_in t.leaf_rows t.text one) ≡ result_of most t i
      one_found e = only-leaf one at_one (none_passing value_leaf (one + 1) (leaves_to t i) (e ∙ same_search (one + 1)))
