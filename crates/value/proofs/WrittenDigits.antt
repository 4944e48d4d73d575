-- How many digits are written: the greatest of three numbers, and enough for the number. A sign put on and taken off again.
-- Assumes nothing.
use mathlib.Core.Bool.{Bool, true, false}
use mathlib.Core.Path.{◌≡◌, refl}
use Prim.Native.Nat.{ℕ, zero, suc, ◌^◌, ◌≤◌, ◌<◌}
use native.Mathlib.Nat.{le_trans}
use native.Mathlib.Omega.{arith}
use lib.IntN.{ℤ, pos, negsuc, nat_abs}
use borrow.Author.Tests.{le-ltb}
use Rattle.value.specs.Values.{signed_of}
use Rattle.value.specs.inner.Digits.{tenths, digit_count}
use Rattle.value.specs.inner.Shortening.{digits_for}
use Rattle.value.specs.inner.Signs.{apart}
use Rattle.value.proofs.DigitTexts.{power_within}
use Rattle.value.proofs.DigitsBack.{below-tenths, tenths-below, count_enough}

-- a sign put on leaves the magnitude, and what is taken apart is put together again
pub signed_magnitude : (negative : Bool) (m : ℕ) → nat_abs (signed_of negative m) ≡ m
unfolding signed_of
signed_magnitude false m = refl
signed_magnitude true zero = refl
signed_magnitude true (suc m) = refl

pub apart_signed : (z : ℤ) → signed_of (apart z).0 (nat_abs z) ≡ z
unfolding signed_of apart
apart_signed (pos n) = rw (le-ltb n 0 (omega arith))
apart_signed (negsuc n) = refl

-- how many digits are written
module _ (most n d : ℕ) where
  pub written_count : digit_count most n ≤ digits_for most n d
  unfolding digits_for
  written_count = omega arith

  pub written-decimals : d ≤ digits_for most n d
  unfolding digits_for
  written-decimals = omega arith

  pub written_one : 1 ≤ digits_for most n d
  unfolding digits_for
  written_one = omega arith

  pub written-least : (k : ℕ) → digit_count most n ≤ k → d ≤ k → 1 ≤ k → digits_for most n d ≤ k
  unfolding digits_for
  written-least k h i j = omega (arith, h, i, j)

  -- they bring the number to 0
  pub written_enough : n < 10 ^ most → tenths (digits_for most n d) n ≡ 0
  written_enough h =
      below-tenths (digits_for most n d) n
      (le_trans (tenths-below (digit_count most n) n (count_enough most n h)) (power_within (digit_count most n) (digits_for most n d) written_count))
