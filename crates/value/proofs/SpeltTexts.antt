-- How a text is spelt that reads to a value: such a text is spelt so, what is spelt so reads to the value, and how many bytes it has.
-- Assumes nothing.
use mathlib.Core.Bool.{Bool, true}
use mathlib.Core.List.{List, [], ◌∷◌, ◌++◌}
use mathlib.Core.Logic.{◌⊎◌, inl, inr}
use mathlib.Core.Path.{◌≡◌, refl, sym, ap, ap₂, ◌∙◌}
use Prim.Native.Nat.{ℕ, zero, suc, ◌+◌, ◌≤◌, ◌<◌}
use native.Mathlib.Omega.{arith}
use lib.IntN.{ℤ}
use lib.ListN.{length, get_or, length-append}
use Rattle.laws.specs.Lists.{concat}
use Rattle.laws.proofs.Cases.{less_or_not}
use Rattle.laws.proofs.Tests.{Tested, passed, failed, tested}
use Rattle.table.specs.Leaves.{split}
use Rattle.value.specs.declared.reading.Value.{Value}
use Rattle.value.specs.Refusals.{not_a_number, many_digits}
use Rattle.value.specs.Numerals.{Numeral, point, unsigned_text, is_negative, are_number, made_by, says_none, said_by, numeral_of, behind_point}
use Rattle.value.specs.Values.{signed_of, with_sign, value_of, ReadsTo, Spelt}
use Rattle.value.proofs.NumberParts.{said-none, said_many, said-number}
use Rattle.value.proofs.NumberShape.{bare_parts, number_bare, bare_apart, bare_of, shaped}

-- what a text's value is by what its parts say
module _ (most : ℕ) (text : List ℕ) where
  value_of_lem : (n : Numeral) → said_by most (is_negative text) (split point (unsigned_text text)) ≡ n → value_of most text ≡ with_sign n
  unfolding value_of numeral_of
  value_of_lem n e = ap with_sign e

  no_value : (number : ℕ) (z : ℤ) (d : ℕ) → value_of most text ≡ with_sign (says_none (suc number)) → ReadsTo most z d text → ⊥
  no_value number z d e h =
      let clash : suc number ≡ 0 = sym (ap (λ (v : Value). v.number) e) ∙ ap (λ (v : Value). v.number) h in
      let never : ⊥ = omega arith in
      never

  -- a text that reads to a value is spelt so, and what is spelt so reads to it
  pub reads_spelt : (z : ℤ) (d : ℕ) → ReadsTo most z d text → Spelt most z d text
  reads_spelt z d h = go (tested (are_number parts)) (less_or_not most (length (concat parts)))
    where
      parts : List (List ℕ)
      parts = split point (unsigned_text text)

      spelt : are_number parts ≡ true → length (concat parts) ≤ most → Spelt most z d text
      spelt k few =
          let n = number_bare (unsigned_text text) k in
          let b = bare_parts n.whole n.decimals n.whole_digits n.decimal_digits n.some_digit in
          let joined : concat parts ≡ n.whole ++ n.decimals = ap (λ (u : List ℕ). concat (split point u)) n.shape ∙ b.joined in
          let second : get_or parts 1 [] ≡ n.decimals = ap (λ (u : List ℕ). get_or (split point u) 1 []) n.shape ∙ b.second in
          let told = value_of_lem _ (said-number most (is_negative text) parts k few) in
          record {
            number = shaped text k;
            few = omega (arith, few, ap length joined, length-append n.whole n.decimals);
            value =
                ap (λ (s : List ℕ). signed_of (is_negative text) (made_by 0 s)) (sym joined)
                ∙ sym (ap (λ (v : Value). v.whole) told)
                ∙ ap (λ (v : Value). v.whole) h;
            count = ap length (sym second) ∙ sym (ap (λ (v : Value). v.decimals) told) ∙ ap (λ (v : Value). v.decimals) h;
          }

      go : Tested (are_number parts) → (most < length (concat parts)) ⊎ (length (concat parts) ≤ most) → Spelt most z d text
      go (failed k) few = absurd (no_value 19 z d (value_of_lem (says_none not_a_number) (said-none most (is_negative text) parts k)) h)
      go (passed k) (inl many) = absurd (no_value 20 z d (value_of_lem (says_none many_digits) (said_many most (is_negative text) parts k many)) h)
      go (passed k) (inr few) = spelt k few

  pub spelt_reads : (z : ℤ) (d : ℕ) → Spelt most z d text → ReadsTo most z d text
  spelt_reads z d s =
      let u = s.number.whole ++ behind_point s.number.decimals in
      let b = bare_parts s.number.whole s.number.decimals s.number.whole_digits s.number.decimal_digits s.number.some_digit in
      let off = bare_apart s.number.sign_is (bare_of s.number) in
      let parts : split point (unsigned_text text) ≡ split point u = ap (split point) (ap unsigned_text s.number.shape ∙ off.0) in
      let negative : is_negative text ≡ s.number.negative = ap is_negative s.number.shape ∙ off.1 in
      value_of_lem _
      (ap₂ (λ (n : Bool) (ps : List (List ℕ)). said_by most n ps) negative parts
      ∙ said-number most s.number.negative (split point u) b.number
      (omega (arith, s.few, ap length b.joined, length-append s.number.whole s.number.decimals)))
      ∙ ap₂ {C = Value} (λ (w : ℤ) (k : ℕ). record { number = 0; whole = w; decimals = k })
      (ap (λ (t : List ℕ). signed_of s.number.negative (made_by 0 t)) b.joined ∙ s.value)
      (ap length b.second ∙ s.count)

-- the bytes of a point, where there are decimals
unfoldable pub point_bytes : ℕ → ℕ
point_bytes zero = 0
point_bytes (suc d) = 1

pub point-one : (d : ℕ) → point_bytes d ≤ 1
unfolding point_bytes
point-one zero = omega arith
point-one (suc d) = omega arith

ending_length : (s : List ℕ) → length (behind_point s) ≡ point_bytes (length s) + length s
unfolding behind_point point_bytes
ending_length [] = refl
ending_length (b ∷ s) = omega arith

pub spelt_length : (sign whole decimals : List ℕ)
    → length (sign ++ (whole ++ behind_point decimals)) ≡ length sign + (length whole + (point_bytes (length decimals) + length decimals))
spelt_length sign whole decimals =
    omega (
      arith,
      length-append sign (whole ++ behind_point decimals),
      length-append whole (behind_point decimals),
      ending_length decimals,
    )
