-- What is promised of the values of an order (rule D6), for any limits and levels.
-- Assumes nothing.
use mathlib.Core.Bool.{true, false}
use mathlib.Core.List.{List, map}
use mathlib.Core.Logic.{◌↔◌}
use mathlib.Core.Path.{◌≡◌, refl, ap, ◌∙◌, subst⁻¹}
use Prim.Native.Nat.{ℕ, ◌+◌, ◌≤◌, ◌<◌}
use native.Mathlib.Omega.{arith}
use borrow.Author.Tests.{leb-true, leb-false}
use lib.Dec.{leb}
use lib.IntN.{ℤ, pos}
use lib.ListN.{length, get_or, drop, length-map}
use lib.Seq.{sets, length-sets}
use Rattle.laws.proofs.Lists.{get_d_map}
use Rattle.laws.proofs.Stores.{front_dropped, get_or_sets_within}
use Rattle.laws.proofs.Tests.{Tested, passed, failed, tested, never_both}
use Rattle.form.specs.declared.limits.Limits.{Limits}
use Rattle.form.specs.Numbers.{no_table_number}
use Rattle.table.specs.Lent.{Lent}
use Rattle.write.specs.inner.ReadsBack.{is_table}
use Rattle.look.specs.Looking.{order_at}
use Rattle.value.specs.declared.reading.Value.{Value}
use Rattle.value.specs.declared.results.ValuesRead.{ValuesRead}
use Rattle.value.specs.Refusals.{not_an_order, little_room}
use Rattle.value.specs.Results.{
  numeric_rows,
  value_at,
  values_of,
  Results,
  refuses_values,
  gives,
  answers_room,
  results,
  results_told,
  numbers_after,
  wholes_after,
  decimals_after,
  ReadValues,
}
use Rattle.value.specs.Promises.{kth_answer, AnsweredOrder}
use Rattle.value.proofs.ResultsRead as read
use Rattle.value.proofs.ResultsRead.{length-values}

-- what an order gave, by the tests in their order: nothing, with a number that is not 0, or all its answers, with room for them
data Gave (L : Limits) (levels : ℕ → ℕ → ℕ) (most : ℕ) (t : Lent) (order numbers wholes decimals : ℕ) : Type 0 where
  no_message : is_table L levels t ≡ false → results L levels most t order numbers wholes decimals ≡ refuses_values no_table_number
      → Gave L levels most t order numbers wholes decimals
  no_obr : is_table L levels t ≡ true → order_at t order ≡ false → results L levels most t order numbers wholes decimals ≡ refuses_values not_an_order
      → Gave L levels most t order numbers wholes decimals
  short : is_table L levels t ≡ true → order_at t order ≡ true → answers_room numbers wholes decimals < length (numeric_rows t order)
      → results L levels most t order numbers wholes decimals ≡ refuses_values little_room → Gave L levels most t order numbers wholes decimals
  answers : is_table L levels t ≡ true → order_at t order ≡ true → length (numeric_rows t order) ≤ answers_room numbers wholes decimals
      → results L levels most t order numbers wholes decimals ≡ gives (values_of most t order) → Gave L levels most t order numbers wholes decimals

gave : (L : Limits) (levels : ℕ → ℕ → ℕ) (most : ℕ) (t : Lent) (order numbers wholes decimals : ℕ) → Gave L levels most t order numbers wholes decimals
gave L levels most t order numbers wholes decimals =
    by (tested (is_table L levels t)) (tested (order_at t order)) (tested (leb (length (numeric_rows t order)) (answers_room numbers wholes decimals)))
  where
    by : Tested (is_table L levels t) → Tested (order_at t order) → Tested (leb (length (numeric_rows t order)) (answers_room numbers wholes decimals))
        → Gave L levels most t order numbers wholes decimals
    by (failed e) is room = no_message e (read.no_table L levels most t order numbers wholes decimals e)
    by (passed e) (failed is) room = no_obr e is (read.no_order L levels most t order numbers wholes decimals e is)
    by (passed e) (passed is) (failed room) =
        short e is (leb-false (length (numeric_rows t order)) (answers_room numbers wholes decimals) room)
        (read.little_room_lem L levels most t order numbers wholes decimals e is room)
    by (passed e) (passed is) (passed room) =
        answers e is (leb-true (length (numeric_rows t order)) (answers_room numbers wholes decimals) room)
        (read.all-given L levels most t order numbers wholes decimals e is room)

-- one part of the answers at a place: that of the k-th, and past the last what stood there
module _ {A : Type 0} (part : Value → A) (most : ℕ) (t : Lent) (order : ℕ) (buffer : List A) (d : A) (room : length (numeric_rows t order) ≤ length buffer) where
  abbrev parts : List A
  parts = map part (values_of most t order)

  length_parts : length parts ≡ length (numeric_rows t order)
  length_parts = length-map (values_of most t order) part ∙ length-values most t order

  part_at : (k : ℕ) → k < length (numeric_rows t order) → get_or (sets buffer 0 parts) k d ≡ part (kth_answer most t order k)
  part_at k h =
      ap (λ (n : ℕ). get_or (sets buffer 0 parts) n d) (let e : k ≡ 0 + k = omega arith in e)
      ∙ get_or_sets_within buffer 0 k parts d (omega (arith, h, length_parts)) (omega (arith, room, length_parts))
      ∙ get_d_map part (values_of most t order) k (kth_answer most t order 0) d (omega (arith, h, length-values most t order))
      ∙ ap part (get_d_map (value_at most t) (numeric_rows t order) k 0 (kth_answer most t order 0) h)

  part_past : drop (length (numeric_rows t order)) (sets buffer 0 parts) ≡ drop (length (numeric_rows t order)) buffer
  part_past = front_dropped buffer parts (length (numeric_rows t order)) length_parts (omega (arith, room, length_parts))

module _ (L : Limits) (levels : ℕ → ℕ → ℕ) (most : ℕ) (t : Lent) (order : ℕ) {numbers numbers' : List ℕ} {wholes wholes' : List ℤ}
    {decimals decimals' : List ℕ} {r : ValuesRead} (got : ReadValues L levels most t order numbers wholes decimals r numbers' wholes' decimals') where
  seen : Gave L levels most t order (length numbers) (length wholes) (length decimals)
  seen = gave L levels most t order (length numbers) (length wholes) (length decimals)

  -- after a refusal
  module _ {number : ℕ} (e : results L levels most t order (length numbers) (length wholes) (length decimals) ≡ refuses_values number) where
    refused-number : r.number ≡ number
    unfolding results_told
    refused-number = ap (λ (v : ValuesRead). v.number) (got.answers ∙ ap results_told e)

    refused-count : r.count ≡ 0
    unfolding results_told
    refused-count = ap (λ (v : ValuesRead). v.count) (got.answers ∙ ap results_told e)

    refused-kept : (numbers' ≡ numbers) × (wholes' ≡ wholes) × (decimals' ≡ decimals)
    unfolding numbers_after wholes_after decimals_after
    refused-kept = (
      got.numbers-put ∙ ap (numbers_after numbers) e,
      got.wholes_put ∙ ap (wholes_after wholes) e,
      got.decimals-put ∙ ap (decimals_after decimals) e,
    )

  -- with answers
  module _ (e : results L levels most t order (length numbers) (length wholes) (length decimals) ≡ gives (values_of most t order)) where
    given-count : r.count ≡ length (numeric_rows t order)
    unfolding results_told
    given-count = ap (λ (v : ValuesRead). v.count) (got.answers ∙ ap results_told e) ∙ length-values most t order

    given-number : r.number ≡ 0
    unfolding results_told
    given-number = ap (λ (v : ValuesRead). v.number) (got.answers ∙ ap results_told e)

    given-put : (numbers' ≡ sets numbers 0 (map (λ (v : Value). v.number) (values_of most t order)))
        × (wholes' ≡ sets wholes 0 (map (λ (v : Value). v.whole) (values_of most t order)))
        × (decimals' ≡ sets decimals 0 (map (λ (v : Value). v.decimals) (values_of most t order)))
    unfolding numbers_after wholes_after decimals_after
    given-put = (
      got.numbers-put ∙ ap (numbers_after numbers) e,
      got.wholes_put ∙ ap (wholes_after wholes) e,
      got.decimals-put ∙ ap (decimals_after decimals) e,
    )

  abbrev Gives : Type 0
  Gives = Gave L levels most t order (length numbers) (length wholes) (length decimals)

  counted-results : r.number ≡ 0 → r.count ≡ length (numeric_rows t order)
  counted-results zero = by seen
    where
      by : Gives → r.count ≡ length (numeric_rows t order)
      by (no_message e q) = absurd (omega (arith, zero, refused-number q))
      by (no_obr e is q) = absurd (omega (arith, zero, refused-number q))
      by (short e is room q) = absurd (omega (arith, zero, refused-number q))
      by (answers e is room q) = given-count q

  kth_answer_lem : (k : ℕ) → k < r.count
      → (get_or numbers' k 0 ≡ (kth_answer most t order k).number)
      × (get_or wholes' k (pos 0) ≡ (kth_answer most t order k).whole)
      × (get_or decimals' k 0 ≡ (kth_answer most t order k).decimals)
  kth_answer_lem k h = by seen
    where
      by : Gives
          → (get_or numbers' k 0 ≡ (kth_answer most t order k).number)
          × (get_or wholes' k (pos 0) ≡ (kth_answer most t order k).whole)
          × (get_or decimals' k 0 ≡ (kth_answer most t order k).decimals)
      by (no_message e q) = absurd (omega (arith, h, refused-count q))
      by (no_obr e is q) = absurd (omega (arith, h, refused-count q))
      by (short e is room q) = absurd (omega (arith, h, refused-count q))
      by (answers e is room q) =
          let put = given-put q in
          let inside : k < length (numeric_rows t order) = omega (arith, h, given-count q) in (
            ap (λ (l : List ℕ). get_or l k 0) put.0 ∙ part_at (λ (v : Value). v.number) most t order numbers 0 (omega (arith, room)) k inside,
            ap (λ (l : List ℤ). get_or l k (pos 0)) put.1 ∙ part_at (λ (v : Value). v.whole) most t order wholes (pos 0) (omega (arith, room)) k inside,
            ap (λ (l : List ℕ). get_or l k 0) put.2 ∙ part_at (λ (v : Value). v.decimals) most t order decimals 0 (omega (arith, room)) k inside,
          )

  buffer_lengths : (length numbers' ≡ length numbers) × (length wholes' ≡ length wholes) × (length decimals' ≡ length decimals)
  buffer_lengths = by seen
    where
      all : (numbers' ≡ numbers) × (wholes' ≡ wholes) × (decimals' ≡ decimals)
          → (length numbers' ≡ length numbers) × (length wholes' ≡ length wholes) × (length decimals' ≡ length decimals)
      all kept = (ap length kept.0, ap length kept.1, ap length kept.2)

      by : Gives → (length numbers' ≡ length numbers) × (length wholes' ≡ length wholes) × (length decimals' ≡ length decimals)
      by (no_message e q) = all (refused-kept q)
      by (no_obr e is q) = all (refused-kept q)
      by (short e is room q) = all (refused-kept q)
      by (answers e is room q) =
          let put = given-put q in (
            ap length put.0 ∙ length-sets numbers 0 (map (λ (v : Value). v.number) (values_of most t order)),
            ap length put.1 ∙ length-sets wholes 0 (map (λ (v : Value). v.whole) (values_of most t order)),
            ap length put.2 ∙ length-sets decimals 0 (map (λ (v : Value). v.decimals) (values_of most t order)),
          )

  past_the_count : (drop r.count numbers' ≡ drop r.count numbers)
      × (drop r.count wholes' ≡ drop r.count wholes)
      × (drop r.count decimals' ≡ drop r.count decimals)
  past_the_count = by seen
    where
      all : (numbers' ≡ numbers) × (wholes' ≡ wholes) × (decimals' ≡ decimals)
          → (drop r.count numbers' ≡ drop r.count numbers)
          × (drop r.count wholes' ≡ drop r.count wholes)
          × (drop r.count decimals' ≡ drop r.count decimals)
      all kept = (ap (drop r.count) kept.0, ap (drop r.count) kept.1, ap (drop r.count) kept.2)

      by : Gives
          → (drop r.count numbers' ≡ drop r.count numbers)
          × (drop r.count wholes' ≡ drop r.count wholes)
          × (drop r.count decimals' ≡ drop r.count decimals)
      by (no_message e q) = all (refused-kept q)
      by (no_obr e is q) = all (refused-kept q)
      by (short e is room q) = all (refused-kept q)
      by (answers e is room q) =
          let put = given-put q in
          subst⁻¹
          (λ (n : ℕ). (drop n numbers' ≡ drop n numbers) × (drop n wholes' ≡ drop n wholes) × (drop n decimals' ≡ drop n decimals)) (given-count q) (
            ap (drop (length (numeric_rows t order))) put.0 ∙ part_past (λ (v : Value). v.number) most t order numbers 0 (omega (arith, room)),
            ap (drop (length (numeric_rows t order))) put.1 ∙ part_past (λ (v : Value). v.whole) most t order wholes (pos 0) (omega (arith, room)),
            ap (drop (length (numeric_rows t order))) put.2 ∙ part_past (λ (v : Value). v.decimals) most t order decimals 0 (omega (arith, room)),
          )

  -- the numbers that come back, and what a refusal leaves
  no_table : (r.number ≡ no_table_number) ↔ (is_table L levels t ≡ false)
  no_table = by seen
    where
      by : Gives → (r.number ≡ no_table_number) ↔ (is_table L levels t ≡ false)
      by (no_message e q) = (λ n. e, λ f. refused-number q)
      by (no_obr e is q) = (λ n. absurd (omega (arith, n, refused-number q)), λ f. absurd (never_both e f))
      by (short e is room q) = (λ n. absurd (omega (arith, n, refused-number q)), λ f. absurd (never_both e f))
      by (answers e is room q) = (λ n. absurd (omega (arith, n, given-number q)), λ f. absurd (never_both e f))

  no_order : (r.number ≡ not_an_order) ↔ ((is_table L levels t ≡ true) × (order_at t order ≡ false))
  no_order = by seen
    where
      by : Gives → (r.number ≡ not_an_order) ↔ ((is_table L levels t ≡ true) × (order_at t order ≡ false))
      by (no_message e q) = (λ n. absurd (omega (arith, n, refused-number q)), λ f. absurd (never_both f.0 e))
      by (no_obr e is q) = (λ n. (e, is), λ f. refused-number q)
      by (short e is room q) = (λ n. absurd (omega (arith, n, refused-number q)), λ f. absurd (never_both is f.1))
      by (answers e is room q) = (λ n. absurd (omega (arith, n, given-number q)), λ f. absurd (never_both is f.1))

  abbrev Short : Type 0
  Short = (is_table L levels t ≡ true) × (order_at t order ≡ true) × (answers_room (length numbers) (length wholes) (length decimals) < length (numeric_rows t order))

  little_room_lem : (r.number ≡ little_room) ↔ Short
  little_room_lem = by seen
    where
      by : Gives → (r.number ≡ little_room) ↔ Short
      by (no_message e q) = (λ n. absurd (omega (arith, n, refused-number q)), λ f. absurd (never_both f.0 e))
      by (no_obr e is q) = (λ n. absurd (omega (arith, n, refused-number q)), λ f. absurd (never_both f.1 is))
      by (short e is room q) = (λ n. (e, is, room), λ f. refused-number q)
      by (answers e is room q) = (λ n. absurd (omega (arith, n, given-number q)), λ f. absurd (omega (arith, room, f.2)))

  other-number : (r.number ≡ no_table_number → ⊥) → (r.number ≡ not_an_order → ⊥) → (r.number ≡ little_room → ⊥) → r.number ≡ 0
  other-number no-13 no-24 no-25 = by seen
    where
      by : Gives → r.number ≡ 0
      by (no_message e q) = absurd (no-13 (refused-number q))
      by (no_obr e is q) = absurd (no-24 (refused-number q))
      by (short e is room q) = absurd (no-25 (refused-number q))
      by (answers e is room q) = given-number q

  no_place : r.place ≡ 0
  unfolding results_told
  no_place = ap (λ (v : ValuesRead). v.place) got.answers ∙ placeless (results L levels most t order (length numbers) (length wholes) (length decimals))
    where
      placeless : (w : Results) → (results_told w).place ≡ 0
      placeless (refuses_values number) = refl
      placeless (gives values) = refl

  refused-order : (r.number ≡ 0 → ⊥) → (numbers' ≡ numbers) × (wholes' ≡ wholes) × (decimals' ≡ decimals) × (r.count ≡ 0)
  refused-order not-0 = by seen
    where
      all : {number : ℕ} → results L levels most t order (length numbers) (length wholes) (length decimals) ≡ refuses_values number
          → (numbers' ≡ numbers) × (wholes' ≡ wholes) × (decimals' ≡ decimals) × (r.count ≡ 0)
      all q = let kept = refused-kept q in (kept.0, kept.1, kept.2, refused-count q)

      by : Gives → (numbers' ≡ numbers) × (wholes' ≡ wholes) × (decimals' ≡ decimals) × (r.count ≡ 0)
      by (no_message e q) = all q
      by (no_obr e is q) = all q
      by (short e is room q) = all q
      by (answers e is room q) = absurd (not-0 (given-number q))

  pub answered_order : AnsweredOrder L levels most t order numbers wholes decimals r numbers' wholes' decimals'
  answered_order =
      record {
        counted-results = counted-results;
        kth_answer_lem = kth_answer_lem;
        buffer_lengths = buffer_lengths;
        past_the_count = past_the_count;
        no_table = no_table;
        no_order = no_order;
        little_room_lem = little_room_lem;
        other-number = other-number;
        no_place = no_place;
        refused-order = refused-order;
      }
