-- What the contracts rule out: a reader that drops the sign before a point, lets `5.` or `+` through, counts only the digits that matter, or keeps a
-- minus before zeros; a writer that puts 0 before the point, leaves a zero out of the decimals, or takes the least of all numbers for a small one.
-- Assumes nothing.
use mathlib.Core.List.{List}
use mathlib.Core.Path.{◌≡◌, sym, ap, ◌∙◌}
use Prim.Native.Nat.{ℕ}
use native.Mathlib.Omega.{arith}
use lib.IntN.{ℤ, pos, negsuc}
use lib.ListN.{replicate}
use Rattle.laws.specs.Lists.{concat}
use Rattle.laws.specs.Texts.{bytes}
use Rattle.table.specs.Leaves.{onto, split}
use Rattle.value.specs.declared.reading.Value.{Value}
use Rattle.value.specs.declared.writing.ValueWritten.{ValueWritten}
use Rattle.value.specs.Numerals.{most_digits, is_digit, all_digits, unsigned_text, is_negative, are_number, made_by, said_by, numeral_of}
use Rattle.value.specs.Values.{signed_of, value_of}
use Rattle.value.specs.Writing.{in_range, spelling, spelling_told, WroteValue}
use Rattle.value.specs.inner.Digits.{tenths, last_digits, digit_count}
use Rattle.value.specs.inner.Shortening.{digits_for, sign_text, pointed, digit_text, text_for, shortest_text}
use Rattle.value.specs.inner.Signs.{apart}

-- what meets the contract of `read_value`
module _ (f : List ℕ → Value) (meets : (text : List ℕ) → f text ≡ value_of most_digits text) where
  -- the sign counts, also where no digit stands between it and the point
  pub sign-before_the_point : f (bytes "-.52") ≡ record { number = 0; whole = negsuc 51; decimals = 2 }
  unfolding value_of numeral_of said_by are_number all_digits is_digit made_by unsigned_text is_negative split onto concat signed_of bytes
  sign-before_the_point = meets (bytes "-.52")

  pub drops_the_sign : (f (bytes "-.52")).whole ≡ pos 52 → ⊥
  drops_the_sign h =
      let z : ◌≡◌ {A = ℤ} (negsuc 51) (pos 52) = sym (ap (λ (v : Value). v.whole) sign-before_the_point) ∙ h in
      let q : ◌≡◌ {A = ℕ} 0 1 = cc in
      omega arith

  -- a point wants a digit behind it, and a sign one at all
  pub point_at_the_end : (f (bytes "5.")).number ≡ 0 → ⊥
  unfolding value_of numeral_of said_by are_number all_digits is_digit made_by unsigned_text is_negative split onto concat signed_of bytes
  point_at_the_end h = let z : ◌≡◌ {A = ℕ} 20 0 = sym (ap (λ (v : Value). v.number) (meets (bytes "5."))) ∙ h in omega arith

  pub sign_alone : (f (bytes "+")).number ≡ 0 → ⊥
  unfolding value_of numeral_of said_by are_number all_digits is_digit made_by unsigned_text is_negative split onto concat signed_of bytes
  sign_alone h = let z : ◌≡◌ {A = ℕ} 20 0 = sym (ap (λ (v : Value). v.number) (meets (bytes "+"))) ∙ h in omega arith

  -- zeros in front are digits, too: sixteen are one too many
  pub digits_that_matter : (f (bytes "0000000000000001")).number ≡ 0 → ⊥
  unfolding value_of numeral_of said_by are_number all_digits is_digit made_by unsigned_text is_negative split onto concat signed_of bytes
  digits_that_matter h = let z : ◌≡◌ {A = ℕ} 21 0 = sym (ap (λ (v : Value). v.number) (meets (bytes "0000000000000001"))) ∙ h in omega arith

  -- 20 comes before 21
  pub many_before_none : (f (bytes "0000000000000001x")).number ≡ 21 → ⊥
  unfolding value_of numeral_of said_by are_number all_digits is_digit made_by unsigned_text is_negative split onto concat signed_of bytes
  many_before_none h = let z : ◌≡◌ {A = ℕ} 20 21 = sym (ap (λ (v : Value). v.number) (meets (bytes "0000000000000001x"))) ∙ h in omega arith

  -- a minus before zeros gives 0
  pub minus_lost : f (bytes "-0.0") ≡ record { number = 0; whole = pos 0; decimals = 1 }
  unfolding value_of numeral_of said_by are_number all_digits is_digit made_by unsigned_text is_negative split onto concat signed_of bytes
  minus_lost = meets (bytes "-0.0")

-- what meets the contract of `write_value`, by the bytes that come back
module _ (f : ℤ → ℕ → List ℕ → ValueWritten) (after : ℤ → ℕ → List ℕ → List ℕ)
    (meets : (whole : ℤ) (decimals : ℕ) (output : List ℕ) → WroteValue most_digits whole decimals output (f whole decimals output) (after whole decimals output)) where
  abbrev room : List ℕ
  room = replicate 17 0

  -- .5 has two bytes, and .05 has three
  pub zero_before_the_point : (f (pos 5) 1 room).bytes ≡ 3 → ⊥
  unfolding spelling in_range spelling_told shortest_text text_for digit_text pointed digits_for digit_count last_digits tenths sign_text apart
  zero_before_the_point h = let z : ◌≡◌ {A = ℕ} 2 3 = sym (ap (λ (w : ValueWritten). w.bytes) (meets (pos 5) 1 room).answers) ∙ h in omega arith

  pub zero_left_out : (f (pos 5) 2 room).bytes ≡ 2 → ⊥
  unfolding spelling in_range spelling_told shortest_text text_for digit_text pointed digits_for digit_count last_digits tenths sign_text apart
  zero_left_out h = let z : ◌≡◌ {A = ℕ} 3 2 = sym (ap (λ (w : ValueWritten). w.bytes) (meets (pos 5) 2 room).answers) ∙ h in omega arith

  -- the least number of 64 bits is out of range
  pub least-taken_for_small : (f (negsuc 9223372036854775807) 0 room).number ≡ 0 → ⊥
  unfolding spelling in_range spelling_told
  least-taken_for_small h =
      let z : ◌≡◌ {A = ℕ} 22 0 = sym (ap (λ (w : ValueWritten). w.number) (meets (negsuc 9223372036854775807) 0 room).answers) ∙ h in
      omega arith
