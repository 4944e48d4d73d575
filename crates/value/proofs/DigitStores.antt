-- Digits as loops count and store them: how many a number has, and its last ones stored from the last on.
-- Assumes nothing.
use mathlib.Core.List.{List, [], ◌∷◌}
use mathlib.Core.Logic.{◌⊎◌, inl, inr}
use mathlib.Core.Path.{◌≡◌, refl, sym, ap, ◌∙◌}
use Prim.Native.Nat.{ℕ, suc, ◌+◌, ◌*◌, ◌-◌, ◌/◌, ◌%◌, ◌^◌, ◌≤◌, ◌<◌}
use native.Mathlib.Nat.{le_antisymm, pow-suc}
use native.Mathlib.Omega.{arith}
use lib.ListN.{length, set, length-set}
use lib.Seq.{sets}
use borrow.Author.Tests.{eq-eqb}
use Rattle.laws.proofs.Cases.{less_or_not}
use Rattle.laws.proofs.Stores.{sets_in_front}
use Rattle.value.specs.inner.Digits.{tenths, last_digits, digit_count}
use Rattle.value.proofs.DigitTexts.{power_within}
use Rattle.value.proofs.DigitsBack.{last-length, count_zero, below-tenths, tenths-below, count_enough, count-least}

-- a loop that stores the last digits at a place, the last of all first, before its turn below `end`: what is left to store gives the whole
pub record Storing (magnitude count : ℕ) (output₀ : List ℕ) (at : ℕ) (output : List ℕ) (left end : ℕ) : Type 0 where
  pub later : at ≤ end
  pub within : end ≤ length output
  pub kept : length output ≡ length output₀
  pub rest : sets output at (last_digits (end - at) left) ≡ sets output₀ at (last_digits count magnitude)
  pub number : tenths (end - at) left ≡ tenths count magnitude

pub storing_begins : (magnitude count : ℕ) (output : List ℕ) (at : ℕ) → at + count ≤ length output
    → Storing magnitude count output at output magnitude (at + count)
storing_begins magnitude count output at h =
    let e : at + count - at ≡ count = omega arith in
    record {
      later = omega arith;
      within = h;
      kept = refl;
      rest = ap (λ (k : ℕ). sets output at (last_digits k magnitude)) e;
      number = ap (λ (k : ℕ). tenths k magnitude) e;
    }

module _ {magnitude count : ℕ} {output₀ : List ℕ} {at : ℕ} {output : List ℕ} {left end : ℕ}
    (s : Storing magnitude count output₀ at output left end) where
  pub storing_on : at < end → Storing magnitude count output₀ at (set output (end - 1) (48 + left % 10)) (left / 10) (end - 1)
  unfolding tenths last_digits
  storing_on h =
      let k = end - 1 - at in
      let e : suc k ≡ end - at = omega arith in
      let place : at + length (last_digits k (left / 10)) ≡ end - 1 = omega (arith, last-length k (left / 10)) in
      record {
        later = omega arith;
        within = omega (arith, s.within, length-set output (end - 1) (48 + left % 10));
        kept = length-set output (end - 1) (48 + left % 10) ∙ s.kept;
        rest =
            ap (λ (n : ℕ). sets (set output n (48 + left % 10)) at (last_digits k (left / 10))) (sym place)
            ∙ sets_in_front output at (last_digits k (left / 10)) ((48 + left % 10) ∷ [])
            ∙ ap (λ (n : ℕ). sets output at (last_digits n left)) e
            ∙ s.rest;
        number = ap (λ (n : ℕ). tenths n left) e ∙ s.number;
      }

  module _ (h : end ≤ at) where
    done : end - at ≡ 0
    done = omega (arith, h)

    pub storing_done : output ≡ sets output₀ at (last_digits count magnitude)
    unfolding last_digits
    storing_done = ap (λ (k : ℕ). sets output at (last_digits k left)) (sym done) ∙ s.rest

    pub storing_number : left ≡ tenths count magnitude
    unfolding tenths
    storing_number = ap (λ (k : ℕ). tenths k left) (sym done) ∙ s.number

-- 0 has no digit
pub count_none : (most n : ℕ) → n ≡ 0 → 0 ≡ digit_count most n
count_none most n e = sym (count_zero most n (eq-eqb n 0 e))

-- how many digits a number has, by the power of ten that it reaches and the next, which it does not
pub count_last : (most n k : ℕ) → n < 10 ^ most → 10 ^ k ≤ n → n < 10 * 10 ^ k → k + 1 ≡ digit_count most n
count_last most n k few from to =
    le_antisymm (above (less_or_not k (digit_count most n)))
    (count-least most (k + 1) n (below-tenths (k + 1) n (let e : 10 ^ (k + 1) ≡ 10 ^ suc k = ap (λ (j : ℕ). 10 ^ j) (omega arith) in omega (arith, e, pow-suc 10 k, to))))
  where
    above : (k < digit_count most n) ⊎ (digit_count most n ≤ k) → k + 1 ≤ digit_count most n
    above (inl h) = omega (arith, h)
    above (inr h) =
        absurd (omega (arith, from, tenths-below (digit_count most n) n (count_enough most n few), power_within (digit_count most n) k h))
