-- What is promised of reading a text (rules D1 to D3), for any count of digits.
-- Assumes nothing.
use mathlib.Core.List.{List}
use mathlib.Core.Logic.{◌↔◌}
use mathlib.Core.Path.{◌≡◌, ap, ◌∙◌}
use Prim.Native.Nat.{ℕ, ◌+◌, ◌≤◌, ◌<◌}
use native.Mathlib.Omega.{arith}
use borrow.Author.Tests.{ltb-true, ltb-false}
use lib.Dec.{ltb}
use lib.IntN.{pos}
use lib.ListN.{length, length-append}
use Rattle.laws.specs.Lists.{concat}
use Rattle.laws.proofs.Tests.{Tested, passed, failed, tested, never_both}
use Rattle.table.specs.Leaves.{split}
use Rattle.value.specs.declared.reading.Value.{Value}
use Rattle.value.specs.Refusals.{not_a_number, many_digits}
use Rattle.value.specs.Numerals.{Numeral, point, unsigned_text, is_negative, are_number, NumberText, says_none, numeral_of}
use Rattle.value.specs.Values.{signed_of, with_sign, value_of}
use Rattle.value.proofs.NumberParts.{said-none, said_many, said-number}
use Rattle.value.proofs.NumberShape.{bare_parts, bare_apart, bare_of, number_exactly}

-- the digits of a text, as they stand between signs and points
abbrev digits_in_all : List ℕ → ℕ
digits_in_all text = length (concat (split point (unsigned_text text)))

digits_in : {text : List ℕ} (n : NumberText text) → digits_in_all text ≡ length n.whole + length n.decimals
digits_in n =
    ap digits_in_all n.shape
    ∙ ap (λ (u : List ℕ). length (concat (split point u))) (bare_apart n.sign_is (bare_of n)).0
    ∙ ap length (bare_parts n.whole n.decimals n.whole_digits n.decimal_digits n.some_digit).joined
    ∙ length-append n.whole n.decimals

-- what a text says, by the tests in their order
data Said (most : ℕ) (text : List ℕ) : Type 0 where
  none : (NumberText text → ⊥) → value_of most text ≡ with_sign (says_none not_a_number) → Said most text
  many : NumberText text → most < digits_in_all text → value_of most text ≡ with_sign (says_none many_digits) → Said most text
  some : NumberText text → digits_in_all text ≤ most → (value_of most text).number ≡ 0 → Said most text

said : (most : ℕ) (text : List ℕ) → Said most text
unfolding value_of numeral_of
said most text = by (tested (are_number parts)) (tested (ltb most (digits_in_all text)))
  where
    parts : List (List ℕ)
    parts = split point (unsigned_text text)

    by : Tested (are_number parts) → Tested (ltb most (digits_in_all text)) → Said most text
    by (failed e) any = none (λ n. never_both ((number_exactly text).1 n) e) (ap with_sign (said-none most (is_negative text) parts e))
    by (passed e) (passed h) =
        let more = ltb-true most (digits_in_all text) h in
        many ((number_exactly text).0 e) more (ap with_sign (said_many most (is_negative text) parts e more))
    by (passed e) (failed h) =
        let few = ltb-false most (digits_in_all text) h in
        some ((number_exactly text).0 e) few (ap (λ (n : Numeral). n.number) (said-number most (is_negative text) parts e few))

module _ (most : ℕ) (text : List ℕ) where
  number-told : {v : Value} → value_of most text ≡ v → (value_of most text).number ≡ v.number
  number-told told = ap (λ (v : Value). v.number) told

  pub no_number : ((value_of most text).number ≡ not_a_number) ↔ (NumberText text → ⊥)
  no_number = by (said most text)
    where
      by : Said most text → ((value_of most text).number ≡ not_a_number) ↔ (NumberText text → ⊥)
      by (none never told) = (λ is-20. never, λ shapeless. number-told told)
      by (many n more told) = (λ is-20. absurd (omega (arith, is-20, number-told told)), λ shapeless. absurd (shapeless n))
      by (some n few told) = (λ is-20. absurd (omega (arith, is-20, told)), λ shapeless. absurd (shapeless n))

  pub many_digits_lem : ((value_of most text).number ≡ many_digits) ↔ ((n : NumberText text) × (most < length n.whole + length n.decimals))
  many_digits_lem = by (said most text)
    where
      by : Said most text → ((value_of most text).number ≡ many_digits) ↔ ((n : NumberText text) × (most < length n.whole + length n.decimals))
      by (none never told) = (λ is-21. absurd (omega (arith, is-21, number-told told)), λ long. absurd (never long.0))
      by (many n more told) = (λ is-21. (n, omega (arith, more, digits_in n)), λ long. number-told told)
      by (some n few told) = (λ is-21. absurd (omega (arith, is-21, told)), λ long. absurd (omega (arith, few, long.1, digits_in long.0)))

  pub none_beside : ((value_of most text).number ≡ 0 → ⊥) → ((value_of most text).whole ≡ pos 0) × ((value_of most text).decimals ≡ 0)
  unfolding signed_of
  none_beside not-0 = by (said most text)
    where
      zeros : {number : ℕ} → value_of most text ≡ with_sign (says_none number) → ((value_of most text).whole ≡ pos 0) × ((value_of most text).decimals ≡ 0)
      zeros told = (ap (λ (v : Value). v.whole) told, ap (λ (v : Value). v.decimals) told)

      by : Said most text → ((value_of most text).whole ≡ pos 0) × ((value_of most text).decimals ≡ 0)
      by (none never told) = zeros told
      by (many n more told) = zeros told
      by (some n few told) = absurd (not-0 told)
