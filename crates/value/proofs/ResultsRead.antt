-- The values of an order, by the tests in their order: no table, no order, room for fewer answers, and the answers.
-- Assumes nothing.
use mathlib.Core.Bool.{true, false}
use mathlib.Core.List.{List}
use mathlib.Core.Path.{◌≡◌, refl, sym, ap, ◌∙◌, subst⁻¹}
use Prim.Native.Nat.{ℕ}
use lib.Dec.{leb}
use lib.IntN.{ℤ}
use lib.ListN.{length, length-map}
use Rattle.form.specs.declared.limits.Limits.{Limits}
use Rattle.form.specs.Numbers.{no_table_number}
use Rattle.table.specs.Lent.{Lent}
use Rattle.write.specs.inner.ReadsBack.{is_table}
use Rattle.look.specs.Looking.{order_at}
use Rattle.value.specs.declared.results.ValuesRead.{ValuesRead}
use Rattle.value.specs.Refusals.{not_an_order, little_room}
use Rattle.value.specs.Results.{
  numeric_rows,
  value_at,
  values_of,
  answers_room,
  Results,
  refuses_values,
  gives,
  results,
  results_told,
  numbers_after,
  wholes_after,
  decimals_after,
  GivesResults,
  ReadValues,
}
use Rattle.value.specs.inner.Seeking.{PutValues}

-- as many answers as numeric results
pub length-values : (most : ℕ) (t : Lent) (order : ℕ) → length (values_of most t order) ≡ length (numeric_rows t order)
length-values most t order = length-map (numeric_rows t order) (value_at most t)

module _ (L : Limits) (levels : ℕ → ℕ → ℕ) (most : ℕ) (t : Lent) (order : ℕ) where
  module _ (numbers wholes decimals : ℕ) where
    abbrev outcome : Results
    outcome = results L levels most t order numbers wholes decimals

    pub no_table : is_table L levels t ≡ false → outcome ≡ refuses_values no_table_number
    unfolding results
    no_table e = rw (e, results)

    module _ (table : is_table L levels t ≡ true) where
      pub no_order : order_at t order ≡ false → outcome ≡ refuses_values not_an_order
      unfolding results
      no_order e = rw (table, e, results)

      module _ (is_order_lem : order_at t order ≡ true) where
        pub little_room_lem : leb (length (numeric_rows t order)) (answers_room numbers wholes decimals) ≡ false → outcome ≡ refuses_values little_room
        unfolding results
        little_room_lem e = rw (table, is_order_lem, e, results)

        pub all-given : leb (length (numeric_rows t order)) (answers_room numbers wholes decimals) ≡ true → outcome ≡ gives (values_of most t order)
        unfolding results
        all-given e = rw (table, is_order_lem, e, results)

  -- a refusal, and the answers as they were put
  module _ (numbers : List ℕ) (wholes : List ℤ) (decimals : List ℕ) where
    pub values-refused : (number : ℕ) → outcome (length numbers) (length wholes) (length decimals) ≡ refuses_values number → {r : ValuesRead}
        → r ≡ results_told (refuses_values number) → ReadValues L levels most t order numbers wholes decimals r numbers wholes decimals
    unfolding numbers_after wholes_after decimals_after
    values-refused number e {r} told =
        subst⁻¹ (λ (w : Results). GivesResults w numbers wholes decimals r numbers wholes decimals) e
        (record { answers = told; numbers-put = refl; wholes_put = refl; decimals-put = refl })

    module _ (table : is_table L levels t ≡ true) (is_order_lem : order_at t order ≡ true) where
      pub values-few : leb (length (numeric_rows t order)) (answers_room (length numbers) (length wholes) (length decimals)) ≡ false → {r : ValuesRead}
          → r ≡ results_told (refuses_values little_room) → ReadValues L levels most t order numbers wholes decimals r numbers wholes decimals
      values-few e = values-refused little_room (little_room_lem (length numbers) (length wholes) (length decimals) table is_order_lem e)

      pub values-put : leb (length (numeric_rows t order)) (answers_room (length numbers) (length wholes) (length decimals)) ≡ true
          → {count : ℕ} {numbers' : List ℕ} {wholes' : List ℤ} {decimals' : List ℕ}
          → PutValues most t order numbers wholes decimals count numbers' wholes' decimals'
          → ReadValues L levels most t order numbers wholes decimals (record { number = 0; place = 0; count = count }) numbers' wholes' decimals'
      unfolding results_told numbers_after wholes_after decimals_after
      values-put e {count} {numbers'} {wholes'} {decimals'} put =
          subst⁻¹ (λ (w : Results). GivesResults w numbers wholes decimals (record { number = 0; place = 0; count = count }) numbers' wholes' decimals')
          (all-given (length numbers) (length wholes) (length decimals) table is_order_lem e)
          (record {
            answers =
                ap {B = ValuesRead} (λ (n : ℕ). record { number = 0; place = 0; count = n }) (put.counted ∙ sym (length-values most t order));
            numbers-put = put.numbers-put;
            wholes_put = put.wholes_put;
            decimals-put = put.decimals-put;
          })
